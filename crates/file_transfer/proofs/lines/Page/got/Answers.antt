use Rattle.std.proofs.Common.{◌≡◌, ℕ, List, [], ◌∷◌, ◌++◌, codes, string_bytes, ap, ◌∙◌, append_assoc}
use Rattle.std.specs.Fmt.{decimal}
use Rattle.hex.specs.Hex.{encode_lower}
use Rattle.file_transfer.proofs.lines.Page.got.Goals as goal

joined : (o a b d e f g h i m k n s z x t : List ℕ) → a ≡ o ++ m → b ≡ a ++ k → d ≡ b ++ n → e ≡ d ++ s → f ≡ e ++ z → g ≡ f ++ s → h ≡ g ++ x → i ≡ h ++ t
    → i ≡ o ++ (m ++ k ++ n ++ s ++ z ++ s ++ x ++ t)
joined o a b d e f g h i m k n s z x t p1 p2 p3 p4 p5 p6 p7 p8 =
    p8 ∙ ap (λ l. l ++ t) (p7 ∙ ap (λ l. l ++ x) (p6 ∙ ap (λ l. l ++ s) (p5 ∙ ap (λ l. l ++ z) (p4 ∙ ap (λ l. l ++ s) (p3 ∙ ap (λ l. l ++ n) (p2 ∙ ap (λ l. l ++ k) p1)))))) ∙ simp append_assoc

pub returns : goal.returns
returns c =
    let file = c.args.file.now in
    joined c.args.self.now.bytes.items c.words.new.self.bytes.items c.words-2.new.self.bytes.items c.words-3.new.self.bytes.items c.words-4.new.self.bytes.items c.number.new.self.bytes.items c.words-5.new.self.bytes.items c.digits.new.self.bytes.items c.words-6.new.self.bytes.items
    c.args.mark.now (codes "got ") (string_bytes file.name) (codes " ") (decimal file.size) (encode_lower file.digest) (10 ∷ [])
    (c.in_ok-words.ensures ∙ ap (λ l. c.args.self.now.bytes.items ++ l) c.as_bytes.ensures.value) c.in_ok-words-2.ensures (c.in_ok-words-3.ensures ∙ ap (λ l. c.words-2.new.self.bytes.items ++ l) c.as_bytes-2.ensures.value) c.in_ok-words-4.ensures c.in_ok-number.ensures c.in_ok-words-5.ensures c.in_ok-digits.ensures c.in_ok-words-6.ensures
