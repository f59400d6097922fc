-- The path of a channel: the main stream up to its word, and from then on the tunnel to which the word
-- moves it. Nothing of the channel is in another tunnel.
use Rattle.std.proofs.Common.{◌≡◌, ℕ, ◌≤◌, false, List, [], ◌∷◌, ◌++◌, length, Option, None, Some, refl, sym, ap, ◌∙◌, append_assoc, append-nil, arith, length-append}
use Rattle.std.specs.Option.{option_or}
use Rattle.mt_base.specs.declared.kinds.Role.{Role}
use Rattle.mt_base.specs.declared.kinds.Role.TheVariants.{Server, Client}
use Rattle.mt_base.specs.declared.kinds.Kind.{Kind}
use Rattle.mt_base.specs.Trace.{Trace, Start, ◌▷◌}
use Rattle.soft_sync.specs.declared.kinds.Path.{Path}
use Rattle.soft_sync.specs.declared.kinds.Path.TheVariants.{Main, Tunnel}
use Rattle.soft_sync.specs.Exchanges.{Request, exchanges, listed, moved}
use Rattle.soft_sync.specs.Words.{path_of}
use Rattle.mt_endpoint.specs.Acts.{Act}
use Rattle.mt_endpoint.specs.Moving.{all_told, made_by, read_by, answer_made, answer_read, made, read, outward}
use Rattle.mt_endpoint.specs.Holding.{is_of, channel_in, is_through}
use Rattle.mt_base.specs.Prefix.{IsPrefixOf}
use Rattle.mt_endpoint.proofs.ChannelPdus.{of, keep-append, is_mine, out, out-step, added}
use Rattle.mt_endpoint.proofs.Words.{word, or_none, listed-plain, listed-more, moved-none, moved-more, moved-early}
use Rattle.mt_endpoint.proofs.Fitting.{Fits, Fitting}
use Rattle.mt_endpoint.proofs.Items.{View, sends, syncs, answers, plain, view}
use Rattle.mt_endpoint.proofs.Written.{none_added, avoid_tunnel, words_are}

-- ---- the server asks, and the client answers

no_answer : (s : Trace Act) (act : Act) → View Server s act → Fits Server s act → answer_made act ≡ []
no_answer s _ (sends id message) f = refl
no_answer s _ (syncs reliable lossy) f = refl
no_answer s _ (answers named) f = absurd (let no : Server ≡ Client = f.0 in cc)
no_answer s _ (plain act items a b c) f = b

pub no_answers : (s : Trace Act) → Fitting Server s → all_told answer_made s ≡ []
no_answers Start f = refl
no_answers (s ▷ act) f = ap (λ l. l ++ answer_made act) (no_answers s f.1) ∙ no_answer s act (view Server s act) f.0

no_request : (s : Trace Act) (act : Act) → View Client s act → Fits Client s act → made_by act ≡ []
no_request s _ (sends id message) f = refl
no_request s _ (syncs reliable lossy) f = absurd (let no : Client ≡ Server = f.0.0 in cc)
no_request s _ (answers named) f = refl
no_request s _ (plain act items a b c) f = a

pub no_requests : (s : Trace Act) → Fitting Client s → all_told made_by s ≡ []
no_requests Start f = refl
no_requests (s ▷ act) f = ap (λ l. l ++ made_by act) (no_requests s f.1) ∙ no_request s act (view Client s act) f.0

few_step : (s : Trace Act) (act : Act) → View Client s act → Fits Client s act → length (all_told answer_made s) ≤ length (all_told read_by s) → length (all_told answer_made (s ▷ act)) ≤ length (all_told read_by (s ▷ act))
few_step s _ (sends id message) f h = omega (arith, h, length-append (all_told answer_made s) [], length-append (all_told read_by s) [])
few_step s _ (syncs reliable lossy) f h = omega (arith, h, length-append (all_told answer_made s) [], length-append (all_told read_by s) [])
few_step s _ (answers named) f h =
    let n = f.1 in omega (arith, n, length-append (all_told answer_made s) (named ∷ []), length-append (all_told read_by s) [])
few_step s _ (plain act items a b c) f h =
    let same : length (all_told answer_made s ++ answer_made act) ≡ length (all_told answer_made s) = ap (λ l. length (all_told answer_made s ++ l)) b ∙ ap length (append-nil (all_told answer_made s)) in
    omega (arith, h, same, length-append (all_told read_by s) (read_by act))

-- a client never has more answers than requests
pub few_answers : (s : Trace Act) → Fitting Client s → length (all_told answer_made s) ≤ length (all_told read_by s)
few_answers Start f = omega arith
few_answers (s ▷ act) f = few_step s act (view Client s act) f.0 (few_answers s f.1)

-- ---- the word of this end

abbrev pub own_word : Role → ℕ → Trace Act → Option Kind
own_word Server id s = listed id (exchanges (all_told made_by s) [])
own_word Client id s = moved id (exchanges (all_told read_by s) (all_told answer_made s))

pub outward_is : (role : Role) (id : ℕ) (s : Trace Act) → Fitting role s → outward id s ≡ path_of (own_word role id s)
outward_is Server id s f =
    ap (λ o. path_of (option_or (listed id (made s)) o)) (ap (λ l. moved id (exchanges (all_told read_by s) l)) (no_answers s f) ∙ moved-none id (all_told read_by s))
    ∙ ap path_of (or_none (listed id (made s)) ∙ listed-plain id (all_told made_by s) _)
outward_is Client id s f =
    ap (λ l. path_of (option_or (listed id (exchanges l (all_told answer_read s))) (moved id (read s)))) (no_requests s f)

own_later : (role : Role) (id : ℕ) (s : Trace Act) (act : Act) (kind : Kind) → own_word role id s ≡ Some kind → own_word role id (s ▷ act) ≡ Some kind
own_later Server id s act kind h = listed-more id (all_told made_by s) (made_by act) kind h
own_later Client id s act kind h = moved-more id (all_told read_by s) (read_by act) (all_told answer_made s) (answer_made act) kind h

pub path_said : (o : Option Kind) (kind : Kind) → path_of o ≡ Tunnel kind → o ≡ Some kind
path_said None kind h = cc
path_said (Some made) kind h = let same : made ≡ kind = cc in ap (λ k. Some k) same

-- a channel stays in its tunnel
pub stays : (role : Role) (id : ℕ) (s : Trace Act) (act : Act) (kind : Kind) → Fitting role (s ▷ act) → outward id s ≡ Tunnel kind → outward id (s ▷ act) ≡ Tunnel kind
stays role id s act kind f h =
    outward_is role id (s ▷ act) f ∙ ap path_of (own_later role id s act kind (path_said (own_word role id s) kind (sym (outward_is role id s f.1) ∙ h)))

pub not_before : (role : Role) (id : ℕ) (s : Trace Act) (act : Act) (kind : Kind) → Fitting role (s ▷ act) → is_through kind (outward id (s ▷ act)) ≡ false → is_through kind (outward id s) ≡ false
not_before role id s act kind f h = by_path (outward id s) refl where
  by_path : (path : Path) → outward id s ≡ path → is_through kind path ≡ false
  by_path Main e = refl
  by_path (Tunnel made) e = ap (is_through kind) (sym (stays role id s act made f e)) ∙ h

-- nothing of a channel is in a tunnel to which it has not moved
pub none_other : (role : Role) (s : Trace Act) (id : ℕ) (kind : Kind) → Fitting role s → is_through kind (outward id s) ≡ false → of id (out (Tunnel kind) role s) ≡ []
none_other role Start id kind f h = refl
none_other role (s ▷ act) id kind f h =
    let before = not_before role id s act kind f h in
    ap (of id) (out-step (Tunnel kind) role s act) ∙ keep-append (is_mine id) (out (Tunnel kind) role s) (added (Tunnel kind) role s act)
    ∙ ap (λ l. l ++ of id (added (Tunnel kind) role s act)) (none_other role s id kind f.1 before)
    ∙ none_added (λ what. is_of id (channel_in what)) (Tunnel kind) role s act (avoid_tunnel kind s id before)

-- while a channel is on the main stream the tunnels have nothing of it
pub none_early : (role : Role) (s : Trace Act) (id : ℕ) (kind : Kind) → Fitting role s → outward id s ≡ Main → of id (out (Tunnel kind) role s) ≡ []
none_early role s id kind f h = none_other role s id kind f (ap (is_through kind) h)

-- ---- the word on the main stream

-- `all` are requests that begin with those that a client read
abbrev pub Begin : Role → Trace Act → List Request → Type 0
Begin Server s all = Unit {0}
Begin Client s all = IsPrefixOf (all_told read_by s) all

pub begin_before : (role : Role) (s : Trace Act) (act : Act) (all : List Request) → Begin role (s ▷ act) all → Begin role s all
begin_before Server s act all h = tt
begin_before Client s act all h = (read_by act ++ h.0, h.1 ∙ append_assoc (all_told read_by s) (read_by act) h.0)

pub word_said : (role : Role) (s : Trace Act) (all : List Request) (id : ℕ) → Fitting role s → Begin role s all → word role all id (out Main role s) ≡ own_word role id s
word_said Server s all id f b = ap (λ l. listed id (exchanges l [])) (words_are Server s).requests_are
word_said Client s all id f b =
    ap (λ l. moved id (exchanges all l)) (words_are Client s).answers_are ∙ ap (λ l. moved id (exchanges l (all_told answer_made s))) b.1
    ∙ moved-early id (all_told read_by s) b.0 (all_told answer_made s) (few_answers s f)
