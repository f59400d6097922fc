-- The channel PDUs on the main stream and in tunnels, and those of one channel among them.
use Rattle.std.proofs.Common.{◌≡◌, ℕ, Bool, true, false, eqb, cond, List, [], ◌∷◌, ◌++◌, flat_map, refl, sym, ap, ◌∙◌, append_assoc}
use Rattle.std.proofs.lemmas.Grind.{flat_map-append}
use Rattle.mt_base.specs.declared.kinds.Role.{Role}
use Rattle.mt_base.specs.declared.kinds.Kind.{Kind}
use Rattle.mt_base.specs.Trace.{Trace, ◌▷◌}
use Rattle.dvc_pdus.specs.Value.{Pdu}
use Rattle.dvc_channels.specs.Pieces.{Piece, pieces_of}
use Rattle.soft_sync.specs.declared.kinds.Path.{Path}
use Rattle.soft_sync.specs.declared.kinds.Path.TheVariants.{Main, Tunnel}
use Rattle.mt_endpoint.specs.Acts.{Act, Heard, TunnelAsked, TunnelAnswered, Spoken, Drawn, CreateAsked, CreateAnswered, Nothing, Carried}
use Rattle.mt_endpoint.specs.Said.{Said, Capable, Creates, Created, Brings, Ends, Moves, Moved, said}
use Rattle.mt_endpoint.specs.Tunnels.{is_silent}
use Rattle.mt_base.specs.Ends.{same_kind}
use Rattle.mt_endpoint.specs.Holding.{is_of, channel_in, channel_of}
use Rattle.mt_endpoint.specs.Writing.{Written, OnMain, Into, unless, adds, on_main, into, spoken, carried}

abbrev pub spoken_pdus : List Heard → List Pdu
spoken_pdus [] = []
spoken_pdus (TunnelAsked id kind cookie ∷ heards) = spoken_pdus heards
spoken_pdus (TunnelAnswered id hr ∷ heards) = spoken_pdus heards
spoken_pdus (Spoken pdu ∷ heards) = pdu ∷ spoken_pdus heards

abbrev pub carried_pdus : List Drawn → List Pdu
carried_pdus [] = []
carried_pdus (CreateAsked id cookie ∷ drawns) = carried_pdus drawns
carried_pdus (CreateAnswered hr ∷ drawns) = carried_pdus drawns
carried_pdus (Nothing ∷ drawns) = carried_pdus drawns
carried_pdus (Carried bytes pdu ∷ drawns) = pdu ∷ carried_pdus drawns

pub spoken_pdus-append : (xs ys : List Heard) → spoken_pdus (xs ++ ys) ≡ spoken_pdus xs ++ spoken_pdus ys
spoken_pdus-append [] ys = refl
spoken_pdus-append (TunnelAsked id kind cookie ∷ xs) ys = spoken_pdus-append xs ys
spoken_pdus-append (TunnelAnswered id hr ∷ xs) ys = spoken_pdus-append xs ys
spoken_pdus-append (Spoken pdu ∷ xs) ys = ap (λ l. pdu ∷ l) (spoken_pdus-append xs ys)

pub carried_pdus-append : (xs ys : List Drawn) → carried_pdus (xs ++ ys) ≡ carried_pdus xs ++ carried_pdus ys
carried_pdus-append [] ys = refl
carried_pdus-append (CreateAsked id cookie ∷ xs) ys = carried_pdus-append xs ys
carried_pdus-append (CreateAnswered hr ∷ xs) ys = carried_pdus-append xs ys
carried_pdus-append (Nothing ∷ xs) ys = carried_pdus-append xs ys
carried_pdus-append (Carried bytes pdu ∷ xs) ys = ap (λ l. pdu ∷ l) (carried_pdus-append xs ys)

-- ---- those of a channel

-- the PDUs for which a test holds
abbrev pub keep : (Pdu → Bool) → List Pdu → List Pdu
keep test [] = []
keep test (pdu ∷ pdus) = cond (test pdu) (pdu ∷ keep test pdus) (keep test pdus)

abbrev pub is_mine : ℕ → Pdu → Bool
is_mine id pdu = is_of id (channel_of pdu)

abbrev pub brings_to : ℕ → Said → Bool
brings_to id (Brings made) = eqb made id
brings_to id (Capable version) = false
brings_to id (Creates made name) = false
brings_to id (Created made status) = false
brings_to id (Ends made) = false
brings_to id (Moves lists) = false
brings_to id (Moved kinds) = false

abbrev pub is_data : ℕ → Pdu → Bool
is_data id pdu = brings_to id (said pdu)

-- the data PDUs and closes of a channel, and the data PDUs alone
abbrev pub of : ℕ → List Pdu → List Pdu
of id pdus = keep (is_mine id) pdus

abbrev pub data_of : ℕ → List Pdu → List Pdu
data_of id pdus = keep (is_data id) pdus

-- the pieces of a channel
abbrev pub pieces : ℕ → List Pdu → List Piece
pieces id pdus = flat_map pieces_of (data_of id pdus)

cond-append : {A : Type 0} (b : Bool) (x : A) (xs ys : List A) → cond b (x ∷ (xs ++ ys)) (xs ++ ys) ≡ cond b (x ∷ xs) xs ++ ys
cond-append true x xs ys = refl
cond-append false x xs ys = refl

pub keep-append : (test : Pdu → Bool) (xs ys : List Pdu) → keep test (xs ++ ys) ≡ keep test xs ++ keep test ys
keep-append test [] ys = refl
keep-append test (pdu ∷ xs) ys =
    ap (λ l. cond (test pdu) (pdu ∷ l) l) (keep-append test xs ys) ∙ cond-append (test pdu) pdu (keep test xs) (keep test ys)

pub pieces-append : (id : ℕ) (xs ys : List Pdu) → pieces id (xs ++ ys) ≡ pieces id xs ++ pieces id ys
pieces-append id xs ys = ap (flat_map pieces_of) (keep-append (is_data id) xs ys) ∙ flat_map-append pieces_of (data_of id xs) (data_of id ys)

-- what the second test keeps, the first keeps too
pub keep-keep : (narrow wide : Pdu → Bool) (xs : List Pdu) → ((pdu : Pdu) → narrow pdu ≡ true → wide pdu ≡ true) → keep narrow (keep wide xs) ≡ keep narrow xs
keep-keep narrow wide [] h = refl
keep-keep narrow wide (pdu ∷ xs) h = by_test (wide pdu) (narrow pdu) refl refl (keep-keep narrow wide xs h) (h pdu) where
  by_test : (w n : Bool) → wide pdu ≡ w → narrow pdu ≡ n → keep narrow (keep wide xs) ≡ keep narrow xs → (narrow pdu ≡ true → wide pdu ≡ true)
      → keep narrow (cond w (pdu ∷ keep wide xs) (keep wide xs)) ≡ cond n (pdu ∷ keep narrow xs) (keep narrow xs)
  by_test true n w_is n_is rest h = ap (λ b. cond b (pdu ∷ keep narrow (keep wide xs)) (keep narrow (keep wide xs))) n_is ∙ ap (λ l. cond n (pdu ∷ l) l) rest
  by_test false false w_is n_is rest h = rest
  by_test false true w_is n_is rest h = absurd (let no : false ≡ true = sym w_is ∙ h n_is in cc)

data_is_mine : (id : ℕ) (s : Said) → brings_to id s ≡ true → is_of id (channel_in s) ≡ true
data_is_mine id (Brings made) h = h
data_is_mine id (Capable version) h = cc
data_is_mine id (Creates made name) h = cc
data_is_mine id (Created made status) h = cc
data_is_mine id (Ends made) h = cc
data_is_mine id (Moves lists) h = cc
data_is_mine id (Moved kinds) h = cc

pub data_of-of : (id : ℕ) (xs : List Pdu) → data_of id (of id xs) ≡ data_of id xs
data_of-of id xs = keep-keep (is_data id) (is_mine id) xs (λ pdu h. data_is_mine id (said pdu) h)

pub pieces-of : (id : ℕ) (xs : List Pdu) → pieces id (of id xs) ≡ pieces id xs
pieces-of id xs = ap (flat_map pieces_of) (data_of-of id xs)

-- where no PDU of a channel is, no data are
pub no_data : (id : ℕ) (xs : List Pdu) → of id xs ≡ [] → data_of id xs ≡ []
no_data id xs h = sym (data_of-of id xs) ∙ ap (data_of id) h

-- ---- what an end writes on a path

abbrev pub at : Path → Bool → List Written → List Pdu
at Main silent written = spoken_pdus (on_main written)
at (Tunnel kind) silent written = carried_pdus (into kind silent written)

abbrev pub silent_at : Path → Trace Act → Bool
silent_at Main t = false
silent_at (Tunnel kind) t = is_silent kind t

-- the channel PDUs that an end writes on a path
abbrev pub out : Path → Role → Trace Act → List Pdu
out Main role t = spoken_pdus (spoken role t)
out (Tunnel kind) role t = carried_pdus (carried kind role t)

abbrev pub added : Path → Role → Trace Act → Act → List Pdu
added path role t act = at path (silent_at path t) (adds role t act)

pub out-step : (path : Path) (role : Role) (t : Trace Act) (act : Act) → out path role (t ▷ act) ≡ out path role t ++ added path role t act
out-step Main role t act = spoken_pdus-append (spoken role t) (on_main (adds role t act))
out-step (Tunnel kind) role t act = carried_pdus-append (carried kind role t) (into kind (is_silent kind t) (adds role t act))

on_main-append : (xs ys : List Written) → on_main (xs ++ ys) ≡ on_main xs ++ on_main ys
on_main-append [] ys = refl
on_main-append (OnMain heard ∷ xs) ys = ap (λ l. heard ∷ l) (on_main-append xs ys)
on_main-append (Into kind drawn ∷ xs) ys = on_main-append xs ys

into-append : (kind : Kind) (silent : Bool) (xs ys : List Written) → into kind silent (xs ++ ys) ≡ into kind silent xs ++ into kind silent ys
into-append kind silent [] ys = refl
into-append kind silent (OnMain heard ∷ xs) ys = into-append kind silent xs ys
into-append kind silent (Into made drawn ∷ xs) ys = by_kind (same_kind kind made) (into-append kind silent xs ys) where
  by_kind : (b : Bool) → into kind silent (xs ++ ys) ≡ into kind silent xs ++ into kind silent ys
      → cond b (unless silent (drawn ∷ []) ++ into kind silent (xs ++ ys)) (into kind silent (xs ++ ys))
      ≡ cond b (unless silent (drawn ∷ []) ++ into kind silent xs) (into kind silent xs) ++ into kind silent ys
  by_kind true h = ap (λ l. unless silent (drawn ∷ []) ++ l) h ∙ sym (append_assoc (unless silent (drawn ∷ [])) (into kind silent xs) (into kind silent ys))
  by_kind false h = h

pub at-append : (path : Path) (silent : Bool) (xs ys : List Written) → at path silent (xs ++ ys) ≡ at path silent xs ++ at path silent ys
at-append Main silent xs ys = ap spoken_pdus (on_main-append xs ys) ∙ spoken_pdus-append (on_main xs) (on_main ys)
at-append (Tunnel kind) silent xs ys = ap carried_pdus (into-append kind silent xs ys) ∙ carried_pdus-append (into kind silent xs) (into kind silent ys)
