-- Where a front of the main stream has a channel's word, nothing stands behind it of what moves with the
-- channel: for a reliable tunnel its data and its close, for a lossy one its data.
use Rattle.std.proofs.Common.{◌≡◌, ℕ, List, [], ◌++◌, Some, refl, sym, ap, ◌∙◌}
use Rattle.mt_base.specs.declared.kinds.Role.{Role}
use Rattle.mt_base.specs.declared.kinds.Kind.{Kind}
use Rattle.mt_base.specs.declared.kinds.Kind.TheVariants.{Reliable, Lossy}
use Rattle.mt_base.specs.Trace.{Trace, Start, ◌▷◌}
use Rattle.dvc_pdus.specs.Value.{Pdu}
use Rattle.soft_sync.specs.declared.kinds.Kinds.{Kinds}
use Rattle.soft_sync.specs.declared.kinds.Path.TheVariants.{Main}
use Rattle.soft_sync.specs.Exchanges.{Request}
use Rattle.soft_sync.specs.Words.{path_of}
use Rattle.mt_endpoint.specs.Acts.{Act, Syncs, Answers}
use Rattle.mt_endpoint.specs.Writing.{adds}
use Rattle.mt_base.proofs.Prefixes.{Cut, first, second, cut_in_two, nothing_first, nothing_second}
use Rattle.mt_endpoint.proofs.ChannelPdus.{keep, keep-append, data_of, no_data, out, out-step, added}
use Rattle.mt_endpoint.proofs.Words.{requests_in, answers_in, requests-append, answers-append, word, word-more, word-less}
use Rattle.mt_endpoint.proofs.Fitting.{Fitting}
use Rattle.mt_endpoint.proofs.Items.{View, sends, syncs, answers, plain, view}
use Rattle.mt_endpoint.proofs.Written.{by_said, moves, none_added, avoid_main, Wordless, wordless_sent, wordless_items}
use Rattle.mt_endpoint.proofs.Paths.{outward_is, Begin, begin_before, word_said}

abbrev pub moved_of : Kind → ℕ → List Pdu → List Pdu
moved_of kind id pdus = keep (by_said (moves kind id)) pdus

abbrev pub Clean : Role → List Request → ℕ → List Pdu → Type 0
Clean role all id pdus = (xs ys : List Pdu) (kind : Kind) → pdus ≡ xs ++ ys → word role all id xs ≡ Some kind → moved_of kind id ys ≡ []

of_plain : (role : Role) (all : List Request) (id : ℕ) (old m ys new : List Pdu) (kind : Kind) → Wordless new → new ≡ m ++ ys → word role all id (old ++ m) ≡ Some kind
    → (word role all id old ≡ Some kind → moved_of kind id (m ++ ys) ≡ []) → moved_of kind id (m ++ ys) ≡ []
of_plain role all id old m ys new kind less split said none =
    let no_requests : requests_in m ≡ [] = nothing_first (requests_in m) (requests_in ys) (sym (requests-append m ys) ∙ ap requests_in (sym split) ∙ less.requests) in
    let no_answers : answers_in m ≡ [] = nothing_first (answers_in m) (answers_in ys) (sym (answers-append m ys) ∙ ap answers_in (sym split) ∙ less.answers) in
    none (sym (word-less role all id old m no_requests no_answers) ∙ said)

-- an act that adds a word adds nothing else
alone : (role : Role) (s : Trace Act) (id : ℕ) (kind : Kind) (reliable lossy : List ℕ) → moved_of kind id (added Main role s (Syncs reliable lossy)) ≡ []
alone role s id Reliable reliable lossy = refl
alone role s id Lossy reliable lossy = refl

alone_answer : (role : Role) (s : Trace Act) (id : ℕ) (kind : Kind) (named : Kinds) → moved_of kind id (added Main role s (Answers named)) ≡ []
alone_answer role s id Reliable named = refl
alone_answer role s id Lossy named = refl

of_word : (role : Role) (s : Trace Act) (act : Act) (all : List Request) (id : ℕ) (m ys : List Pdu) (kind : Kind) → View role s act → added Main role s act ≡ m ++ ys → word role all id (out Main role s ++ m) ≡ Some kind
    → (word role all id (out Main role s) ≡ Some kind → moved_of kind id (m ++ ys) ≡ []) → moved_of kind id (m ++ ys) ≡ []
of_word role s _ all id m ys kind (sends made message) split said none = of_plain role all id (out Main role s) m ys _ kind (wordless_sent s made message) split said none
of_word role s _ all id m ys kind (plain act items a b c) split said none = of_plain role all id (out Main role s) m ys _ kind (wordless_items s (adds role s act) items) split said none
of_word role s _ all id m ys kind (syncs reliable lossy) split said none = ap (moved_of kind id) (sym split) ∙ alone role s id kind reliable lossy
of_word role s _ all id m ys kind (answers named) split said none = ap (moved_of kind id) (sym split) ∙ alone_answer role s id kind named

clean_step : (role : Role) (s : Trace Act) (act : Act) (all : List Request) (id : ℕ) → Fitting role s → Begin role s all → Clean role all id (out Main role s) → Clean role all id (out Main role (s ▷ act))
clean_step role s act all id f b clean xs ys kind split said = by_cut (cut_in_two xs ys (out Main role s) new (sym (out-step Main role s act) ∙ split)) where
  new : List Pdu
  new = added Main role s act

  none : word role all id (out Main role s) ≡ Some kind → moved_of kind id new ≡ []
  none h = none_added (moves kind id) Main role s act (avoid_main kind s id (outward_is role id s f ∙ ap path_of (sym (word_said role s all id f b) ∙ h)))

  by_cut : Cut xs ys (out Main role s) new → moved_of kind id ys ≡ []
  by_cut (first m old rest) =
      let behind : moved_of kind id m ≡ [] = clean xs m kind old said in
      let later : word role all id (out Main role s) ≡ Some kind = ap (word role all id) old ∙ word-more role all id xs m kind said in
      ap (moved_of kind id) rest ∙ keep-append (by_said (moves kind id)) m new ∙ ap (λ l. l ++ moved_of kind id new) behind ∙ none later
  by_cut (second m front rest) =
      let it = of_word role s act all id m ys kind (view role s act) rest (ap (word role all id) (sym front) ∙ said) (λ h. ap (moved_of kind id) (sym rest) ∙ none h) in
      nothing_second (moved_of kind id m) (moved_of kind id ys) (sym (keep-append (by_said (moves kind id)) m ys) ∙ it)

pub main_clean : (role : Role) (s : Trace Act) (all : List Request) (id : ℕ) → Fitting role s → Begin role s all → Clean role all id (out Main role s)
main_clean role Start all id f b xs ys kind split said = ap (moved_of kind id) (nothing_second xs ys (sym split))
main_clean role (s ▷ act) all id f b xs ys kind split said =
    let before = begin_before role s act all b in
    clean_step role s act all id f.1 before (main_clean role s all id f.1 before) xs ys kind split said

-- no data in either case
pub no_moved_data : (kind : Kind) (id : ℕ) (pdus : List Pdu) → moved_of kind id pdus ≡ [] → data_of id pdus ≡ []
no_moved_data Reliable id pdus h = no_data id pdus h
no_moved_data Lossy id pdus h = h
