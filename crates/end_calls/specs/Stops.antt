-- Where an end stops reading: before a frame or a tunnel PDU, or before a call's first byte, while its
-- inbox is full, or one of the queues that a frame may add to has too little room, or what is held
-- leaves no room for one PDU more.
use Rattle.std.specs.Prelude.{◌≡◌, ◌⊎◌, ℕ, ◌+◌, ◌-◌, ◌*◌, ◌<◌, nat_lt, nat_le, Bool, true, false, ◌&&◌, ◌||◌, List, [], ◌∷◌, ◌++◌, length, take, drop, Result, Ok, Err, if◌then◌else◌}
use Rattle.std.specs.List.{flat_map}
use Rattle.mt_base.specs.declared.kinds.Kind.TheVariants.{Reliable}
use Rattle.mt_base.specs.declared.kinds.Role.{Role}
use Rattle.mt_base.specs.Trace.{Trace, Start, ◌▷◌}
use Rattle.mt_windows.specs.declared.limits.TheConstants.{QUEUE}
use Rattle.dvc_channels.specs.Acts as channels
use Rattle.tunnel_pdus.specs.declared.part.Part.{Part}
use Rattle.tunnel_pdus.specs.declared.part.Part.TheVariants.{Whole, More}
use Rattle.tunnel_pdus.specs.declared.part.TunnelRefusal.{TunnelRefusal}
use Rattle.tunnel_pdus.specs.Value as tunnel
use Rattle.tunnel_pdus.specs.Reading.{reading}
use Rattle.mt_endpoint.specs.Acts.{Act}
use Rattle.mt_endpoint.specs.Channels.{table}
use Rattle.mt_endpoint.specs.Holding.{held, weight}
use Rattle.mt_endpoint.specs.Moving.{read, unanswered_in}
use Rattle.mt_endpoint.specs.Tunnels.{is_attached}
use Rattle.mt_endpoint.specs.Writing.{main_bytes, tunneled}
use Rattle.end_calls.specs.declared.limits.TheConstants.{MAIN_QUEUE, CONTROL, ANSWER, INBOX, HOLD, HELD_PDU}
use Rattle.end_calls.specs.Streams.{Past, is_broken, with_main, written}
use Rattle.end_calls.specs.Calls.{Pull, Handed, after_pulls, after_parts}

-- what a call began with: how many bytes of the main stream were handed out before, the load of the
-- reliable link, and the past
pub record Outset : Type 0 where
  pub sent : ℕ
  pub load : ℕ
  pub before : Past

-- the bytes of the main stream that were not handed out, and the load of the reliable link, by now
abbrev pub unsent_at : Role → Outset → Past → ℕ
unsent_at role outset p = length (main_bytes role p.acts) - outset.sent

abbrev pub load_at : Role → Outset → Past → ℕ
load_at role outset p = outset.load + length (flat_map tunneled (written Reliable role outset.before p))

-- the bytes of the main queue that answers to Soft-Sync requests may still take
abbrev pub answers_owed : Trace Act → ℕ
answers_owed t = ANSWER * length (unanswered_in (read t))

abbrev pub is_inbox_full : Role → Past → Bool
is_inbox_full role p = nat_le INBOX (channels.waiting (table role p.acts))

abbrev pub is_main_full : Role → Outset → Past → Bool
is_main_full role outset p = nat_lt MAIN_QUEUE (unsent_at role outset p + (CONTROL + answers_owed p.acts))

abbrev pub is_link_full : Role → Outset → Past → Bool
is_link_full role outset p = is_attached Reliable p.acts && nat_lt QUEUE (load_at role outset p + CONTROL)

-- for both streams
abbrev pub is_stopped : Role → Outset → Past → Bool
is_stopped role outset p = is_inbox_full role p || (is_main_full role outset p || is_link_full role outset p)

-- for the links: also where the reliable tunnel's hold has no room for one PDU more
abbrev pub is_link_stopped : Role → Outset → Past → Bool
is_link_stopped role outset p =
    is_broken p || (is_stopped role outset p || nat_lt HOLD (weight (held role Reliable p.acts) + HELD_PDU))

abbrev pub is_empty : {A : Type 0} → List A → Bool
is_empty [] = true
is_empty (x ∷ xs) = false

abbrev pub is_start : {A : Type 0} → Trace A → Bool
is_start Start = true
is_start (t ▷ x) = false

-- ---- the main stream

-- how many of the bytes offered are taken: up to a stop, and all from a fault on; a broken end takes none
abbrev pub count_from : Role → Outset → Bool → Past → List ℕ → ℕ
count_from role outset is_first p [] = 0
count_from role outset is_first p (byte ∷ bytes) =
    if (if is_broken p then is_first else (is_first || is_empty p.main.bytes) && is_stopped role outset p) then 0
    else 1 + count_from role outset false (with_main role p byte) bytes

-- ---- the reliable link

-- how many bytes more the value under way wants at least
abbrev pub wanted : ℕ → Result (Part tunnel.Pdu) TunnelRefusal → ℕ
wanted size (Ok (More need)) = need - size
wanted size (Ok (Whole pdu used)) = 0
wanted size (Err refusal) = 0

abbrev pub wants : List ℕ → ℕ
wants bytes = wanted (length bytes) (reading bytes)

-- how many bytes are pulled next: none where a stop stands
abbrev pub room_next : Role → Outset → Trace Pull → ℕ
room_next role outset pulls =
    let p = after_pulls role outset.before pulls in
    if is_broken p || ((is_start pulls || is_empty p.tunnel.bytes) && is_link_stopped role outset p) then 0 else wants p.tunnel.bytes

-- the last pull found fewer bytes than it wanted
abbrev pub is_short : Trace Pull → Bool
is_short Start = false
is_short (pulls ▷ pull) = nat_lt (length pull.bytes) pull.room

abbrev pub pulled_bytes : Trace Pull → List ℕ
pulled_bytes Start = []
pulled_bytes (pulls ▷ pull) = pulled_bytes pulls ++ pull.bytes

-- each pull wants what the value under way wants, where no stop stands, and gets the next of the bytes
-- in order that are left
abbrev pub AreNext : Role → Outset → List ℕ → Trace Pull → Type 0
AreNext role outset left Start = Unit {0}
AreNext role outset left (pulls ▷ pull) =
    (is_short pulls ≡ false) × (0 < pull.room) × (pull.room ≡ room_next role outset pulls)
    × (pull.bytes ≡ take pull.room (drop (length (pulled_bytes pulls)) left)) × AreNext role outset left pulls

-- nothing more is pulled: no byte is left, or a stop stands
abbrev pub IsDone : Role → Outset → Trace Pull → Type 0
IsDone role outset pulls = (is_short pulls ≡ true) ⊎ (room_next role outset pulls ≡ 0)

-- ---- the lossy link

abbrev pub handed_parts : Trace Handed → List (List ℕ)
handed_parts Start = []
handed_parts (parts ▷ part) = handed_parts parts ++ part.bytes ∷ []

-- each part is the next of those that are left, where no stop stood before it
abbrev pub AreHanded : Role → Outset → Past → List (List ℕ) → Trace Handed → Type 0
AreHanded role outset p left Start = Unit {0}
AreHanded role outset p left (parts ▷ part) =
    (is_link_stopped role outset (after_parts role p parts) ≡ false)
    × ((rest : List (List ℕ)) × (left ≡ handed_parts (parts ▷ part) ++ rest)) × AreHanded role outset p left parts

-- nothing more is handed out: no part is left, or a stop stands
abbrev pub AreAll : Role → Outset → Past → List (List ℕ) → Trace Handed → Type 0
AreAll role outset p left parts =
    (left ≡ handed_parts parts) ⊎ (is_link_stopped role outset (after_parts role p parts) ≡ true)
