-- The calls that an end makes of its links. What a frame, a PDU or a step writes into a tunnel is given
-- to its link by one call, as soon as it is read or made; but a message goes in PDU by PDU. A lossy link
-- has each PDU posted by itself.
use Rattle.std.specs.Prelude.{ℕ, Bool, not, ◌&&◌, ◌||◌, List, [], ◌∷◌, take, is_some, option_map, Option, Some, None, if◌then◌else◌}
use Rattle.std.specs.List.{fold, flat_map}
use Rattle.mt_base.specs.declared.kinds.Kind.{Kind}
use Rattle.mt_base.specs.declared.kinds.Kind.TheVariants.{Reliable, Lossy}
use Rattle.mt_base.specs.declared.kinds.Role.{Role}
use Rattle.mt_base.specs.Trace.{Trace, Start, ◌▷◌}
use Rattle.carrier.specs.Entries.{Gave, In, Polled, Pulled, Posted, Next}
use Rattle.carrier.specs.Entries as link
use Rattle.mt_endpoint.specs.Acts.{Act, Sends, Drawn}
use Rattle.mt_endpoint.specs.Tunnels.{is_attached}
use Rattle.mt_base.specs.Ends.{same_kind}
use Rattle.mt_endpoint.specs.Writing.{tunneled}
use Rattle.end_calls.specs.Streams.{Past, with_main, written}
use Rattle.end_calls.specs.Calls.{Entry, Own, MainIn, MainOut, WireIn, WireOut, Pull, Handed, lacking, after_pulls, after_parts, read_count, before_poll, if_steps, story, past, acts}
use Rattle.end_calls.specs.Stops.{Outset, is_link_stopped}
use Rattle.end_calls.specs.Law.{outset}
use Rattle.carrier.specs.declared.state.Took.{Took}

-- one PDU into a link
abbrev pub gives : Kind → Trace link.Entry → Drawn → Trace link.Entry
gives Reliable t drawn = t ▷ Gave (tunneled drawn)
gives Lossy t drawn = t ▷ Posted (tunneled drawn)

-- bytes, where there are any
abbrev pub gives_bytes : List ℕ → Trace link.Entry → Trace link.Entry
gives_bytes [] t = t
gives_bytes (byte ∷ bytes) t = t ▷ Gave (byte ∷ bytes)

abbrev pub gives_joined : Kind → List Drawn → Trace link.Entry → Trace link.Entry
gives_joined Reliable drawn t = gives_bytes (flat_map tunneled drawn) t
gives_joined Lossy drawn t = fold (gives Lossy) t drawn

abbrev pub gives_all : Kind → Role → Past → Past → Trace link.Entry → Trace link.Entry
gives_all kind role p q t = gives_joined kind (written kind role p q) t

-- what a step of the end's own writes
abbrev pub gives_own : Kind → Act → List Drawn → Trace link.Entry → Trace link.Entry
gives_own kind (Sends id message) drawn t = fold (gives kind) t drawn
gives_own kind act drawn t = gives_joined kind drawn t

-- frame by frame; memory may be wanting at the last one
abbrev pub by_bytes : Kind → Role → Past → List ℕ → Option (Trace Act) → Trace link.Entry → Trace link.Entry
by_bytes kind role p [] lack t = t
by_bytes kind role p (byte ∷ []) lack t = gives_all kind role p (lacking lack (with_main role p byte)) t
by_bytes kind role p (byte ∷ next ∷ bytes) lack t =
    by_bytes kind role (with_main role p byte) (next ∷ bytes) lack (gives_all kind role p (with_main role p byte) t)

-- pull by pull
abbrev pub pulls_from : Kind → Pull → Trace link.Entry → Trace link.Entry
pulls_from Reliable pull t = t ▷ Pulled pull.room pull.bytes
pulls_from Lossy pull t = t

abbrev pub by_pulls : Kind → Role → Past → Trace Pull → Option (Trace Act) → Trace link.Entry → Trace link.Entry
by_pulls kind role p Start lack t = t
by_pulls kind role p (pulls ▷ pull) lack t =
    gives_all kind role (after_pulls role p pulls) (lacking lack (after_pulls role p (pulls ▷ pull)))
    (pulls_from kind pull (by_pulls kind role p pulls None t))

-- part by part
abbrev pub takes_from : Kind → Handed → Trace link.Entry → Trace link.Entry
takes_from Reliable part t = t
takes_from Lossy part t = t ▷ Next (Some part.bytes)

abbrev pub by_parts : Kind → Role → Past → Trace Handed → Option (Trace Act) → Trace link.Entry → Trace link.Entry
by_parts kind role p Start lack t = t
by_parts kind role p (parts ▷ part) lack t =
    gives_all kind role (after_parts role p parts) (lacking lack (after_parts role p (parts ▷ part)))
    (takes_from kind part (by_parts kind role p parts None t))

abbrev pub of_pulls : Trace Handed → Option (Trace Act) → Option (Trace Act)
of_pulls Start lack = lack
of_pulls (parts ▷ part) lack = None

-- where no stop stands behind the last part, the link is asked for one more, and has none
abbrev pub asks_once_more : Kind → Bool → Trace link.Entry → Trace link.Entry
asks_once_more Reliable is_asked t = t
asks_once_more Lossy is_asked t = if is_asked then t ▷ Next None else t

abbrev pub takes_in : Kind → Kind → ℕ → List ℕ → Took → Trace link.Entry → Trace link.Entry
takes_in kind made now datagram took t = if same_kind kind made then t ▷ In now datagram took else t

-- what a datagram makes an end read of its links
abbrev pub reads_in : Kind → Role → Outset → Trace Pull → Trace Handed → Option (Trace Act) → Trace link.Entry → Trace link.Entry
reads_in kind role outset pulls parts lack t =
    let p = after_pulls role outset.before pulls in
    asks_once_more kind (is_attached Lossy p.acts && not (is_some lack || is_link_stopped role outset (after_parts role p parts)))
    (by_parts kind role p parts lack (by_pulls kind role outset.before pulls (of_pulls parts lack) t))

-- what a poll adds: what is posted before it, and the poll of its own link
abbrev pub polls : Kind → Kind → ℕ → Option (List ℕ) → Trace link.Entry → Trace link.Entry
polls kind made now out t = if same_kind kind made then t ▷ Polled now out else t

-- all calls of the link of this kind
abbrev pub linked : Kind → Role → Trace Entry → Trace link.Entry
linked kind role Start = Start
linked kind role (t ▷ Own act) = gives_own kind act (written kind role (past role t) (past role (t ▷ Own act))) (linked kind role t)
linked kind role (t ▷ MainIn offered count load lack) =
    by_bytes kind role (past role t) (take (read_count count lack) offered) (option_map (λ (l : ℕ × Trace Act). l.1) lack) (linked kind role t)
linked kind role (t ▷ MainOut room bytes) = linked kind role t
linked kind role (t ▷ WireIn made now datagram took load came pulls parts lack) =
    if is_attached made (acts role t)
    then reads_in kind role (outset role t load) pulls parts lack (takes_in kind made now datagram took (linked kind role t))
    else linked kind role t
linked kind role (t ▷ WireOut made now is_full out state) =
    let p = past role t in
    let q = if_steps role (before_poll made p.acts (story role t).postings now is_full) p in
    polls kind made now out (gives_all kind role p q (linked kind role t))
