-- Lines by the word that they begin with.
use Rattle.std.proofs.Common.{◌≡◌, ◌≢◌, ℕ, ◌<◌, List, ◌++◌, length, take, drop, get_or, codes, refl, sym, ap, ◌∙◌, arith}
use Rattle.std.proofs.lemmas.List.{take-append-drop}
use Rattle.mt_base.specs.declared.kinds.Role.{Role}
use Rattle.mt_base.specs.declared.kinds.Role.TheVariants.{Server, Client}
use Rattle.mt_script.specs.Spelling.{IsBytes, hex_text}
use Rattle.mt_script.proofs.Spellings.{hex_text-injective}
use Rattle.mt_show.specs.declared.asked.Asked.{Asked}
use Rattle.mt_show.specs.declared.asked.Asked.TheVariants.{FirstLayout, SecondLayout, Tunnel, MainStream, Channel}
use Rattle.mt_show.specs.Grammar.{spelled, IsAsked, Breaks}

-- a line of two words
pub in_parts : (line start word : List ℕ) → take (length start) line ≡ start → drop (length start) line ≡ word → line ≡ start ++ word
in_parts line start word s w = sym (take-append-drop (length start) line) ∙ ap (λ t. t ++ drop (length start) line) s ∙ ap (λ t. start ++ t) w

-- the letter that tells the kinds apart
abbrev pub letter : List ℕ → ℕ
letter line = get_or line 1 0

abbrev pub letter_of : Asked → ℕ
letter_of (FirstLayout bytes) = 49
letter_of (SecondLayout bytes) = 50
letter_of (Tunnel bytes) = 117
letter_of (MainStream bytes) = 114
letter_of (Channel from bytes) = 118

pub letter_is : (line : List ℕ) (asked : Asked) → line ≡ spelled asked → letter line ≡ letter_of asked
letter_is line (FirstLayout bytes) e = ap letter e
letter_is line (SecondLayout bytes) e = ap letter e
letter_is line (Tunnel bytes) e = ap letter e
letter_is line (MainStream bytes) e = ap letter e
letter_is line (Channel from bytes) e = ap letter e

-- what a line of a channel PDU begins with
abbrev pub channel_start : Role → List ℕ
channel_start Server = codes "dvc server "
channel_start Client = codes "dvc client "

-- a line that begins with none of the words
pub no_kind : (line : List ℕ) → take 3 line ≢ codes "v1 " → take 3 line ≢ codes "v2 " → take 7 line ≢ codes "tunnel " → take 6 line ≢ codes "frame "
    → ((from : Role) → take 11 line ≢ channel_start from) → Breaks line
no_kind line a b c d k (FirstLayout bytes) is e = a (ap (take 3) e)
no_kind line a b c d k (SecondLayout bytes) is e = b (ap (take 3) e)
no_kind line a b c d k (Tunnel bytes) is e = c (ap (take 7) e)
no_kind line a b c d k (MainStream bytes) is e = d (ap (take 6) e)
no_kind line a b c d k (Channel Server bytes) is e = k Server (ap (take 11) e)
no_kind line a b c d k (Channel Client bytes) is e = k Client (ap (take 11) e)

-- a line that begins with `v1`, and goes on otherwise
pub behind_first : (line bytes : List ℕ) → line ≡ spelled (FirstLayout bytes) → drop 3 line ≡ hex_text bytes
behind_first line bytes e = ap (drop 3) e

letter_first : (line : List ℕ) → take 3 line ≡ codes "v1 " → letter line ≡ 49
letter_first line start = ap letter (in_parts line (codes "v1 ") (drop 3 line) start refl)

pub no_first : (line : List ℕ) → take 3 line ≡ codes "v1 " → ((bytes : List ℕ) → IsAsked (FirstLayout bytes) → drop 3 line ≢ hex_text bytes) → Breaks line
no_first line start none (FirstLayout bytes) is e = none bytes is (behind_first line bytes e)
no_first line start none (SecondLayout bytes) is e = omega (arith, letter_first line start, letter_is line (SecondLayout bytes) e)
no_first line start none (Tunnel bytes) is e = omega (arith, letter_first line start, letter_is line (Tunnel bytes) e)
no_first line start none (MainStream bytes) is e = omega (arith, letter_first line start, letter_is line (MainStream bytes) e)
no_first line start none (Channel from bytes) is e = omega (arith, letter_first line start, letter_is line (Channel from bytes) e)

-- a line that begins with `v2`, and goes on otherwise
pub behind_second : (line bytes : List ℕ) → line ≡ spelled (SecondLayout bytes) → drop 3 line ≡ hex_text bytes
behind_second line bytes e = ap (drop 3) e

letter_second : (line : List ℕ) → take 3 line ≡ codes "v2 " → letter line ≡ 50
letter_second line start = ap letter (in_parts line (codes "v2 ") (drop 3 line) start refl)

pub no_second : (line : List ℕ) → take 3 line ≡ codes "v2 " → ((bytes : List ℕ) → IsAsked (SecondLayout bytes) → drop 3 line ≢ hex_text bytes) → Breaks line
no_second line start none (FirstLayout bytes) is e = omega (arith, letter_second line start, letter_is line (FirstLayout bytes) e)
no_second line start none (SecondLayout bytes) is e = none bytes is (behind_second line bytes e)
no_second line start none (Tunnel bytes) is e = omega (arith, letter_second line start, letter_is line (Tunnel bytes) e)
no_second line start none (MainStream bytes) is e = omega (arith, letter_second line start, letter_is line (MainStream bytes) e)
no_second line start none (Channel from bytes) is e = omega (arith, letter_second line start, letter_is line (Channel from bytes) e)

-- a line that begins with `tunnel`, and goes on otherwise
pub behind_tunnel : (line bytes : List ℕ) → line ≡ spelled (Tunnel bytes) → drop 7 line ≡ hex_text bytes
behind_tunnel line bytes e = ap (drop 7) e

letter_tunnel : (line : List ℕ) → take 7 line ≡ codes "tunnel " → letter line ≡ 117
letter_tunnel line start = ap letter (in_parts line (codes "tunnel ") (drop 7 line) start refl)

pub no_tunnel : (line : List ℕ) → take 7 line ≡ codes "tunnel " → ((bytes : List ℕ) → IsAsked (Tunnel bytes) → drop 7 line ≢ hex_text bytes) → Breaks line
no_tunnel line start none (FirstLayout bytes) is e = omega (arith, letter_tunnel line start, letter_is line (FirstLayout bytes) e)
no_tunnel line start none (SecondLayout bytes) is e = omega (arith, letter_tunnel line start, letter_is line (SecondLayout bytes) e)
no_tunnel line start none (Tunnel bytes) is e = none bytes is (behind_tunnel line bytes e)
no_tunnel line start none (MainStream bytes) is e = omega (arith, letter_tunnel line start, letter_is line (MainStream bytes) e)
no_tunnel line start none (Channel from bytes) is e = omega (arith, letter_tunnel line start, letter_is line (Channel from bytes) e)

-- a line that begins with `frame`, and goes on otherwise
pub behind_frame : (line bytes : List ℕ) → line ≡ spelled (MainStream bytes) → drop 6 line ≡ hex_text bytes
behind_frame line bytes e = ap (drop 6) e

letter_frame : (line : List ℕ) → take 6 line ≡ codes "frame " → letter line ≡ 114
letter_frame line start = ap letter (in_parts line (codes "frame ") (drop 6 line) start refl)

pub no_frame : (line : List ℕ) → take 6 line ≡ codes "frame " → ((bytes : List ℕ) → IsAsked (MainStream bytes) → drop 6 line ≢ hex_text bytes) → Breaks line
no_frame line start none (FirstLayout bytes) is e = omega (arith, letter_frame line start, letter_is line (FirstLayout bytes) e)
no_frame line start none (SecondLayout bytes) is e = omega (arith, letter_frame line start, letter_is line (SecondLayout bytes) e)
no_frame line start none (Tunnel bytes) is e = omega (arith, letter_frame line start, letter_is line (Tunnel bytes) e)
no_frame line start none (MainStream bytes) is e = none bytes is (behind_frame line bytes e)
no_frame line start none (Channel from bytes) is e = omega (arith, letter_frame line start, letter_is line (Channel from bytes) e)

-- a line that begins with `dvc` and an end, and goes on otherwise
pub behind_channel : (from : Role) (line bytes : List ℕ) → line ≡ spelled (Channel from bytes) → drop 11 line ≡ hex_text bytes
behind_channel Server line bytes e = ap (drop 11) e
behind_channel Client line bytes e = ap (drop 11) e

pub channel_parts : (from : Role) (line bytes : List ℕ) → take 11 line ≡ channel_start from → drop 11 line ≡ hex_text bytes → line ≡ spelled (Channel from bytes)
channel_parts Server line bytes start word = in_parts line (codes "dvc server ") (hex_text bytes) start word
channel_parts Client line bytes start word = in_parts line (codes "dvc client ") (hex_text bytes) start word

letter_channel : (from : Role) (line : List ℕ) → take 11 line ≡ channel_start from → letter line ≡ 118
letter_channel Server line start = ap letter (in_parts line (codes "dvc server ") (drop 11 line) start refl)
letter_channel Client line start = ap letter (in_parts line (codes "dvc client ") (drop 11 line) start refl)

-- the letter that tells the ends apart
abbrev pub end_letter : List ℕ → ℕ
end_letter line = get_or line 4 0

abbrev pub end_letter_of : Role → ℕ
end_letter_of Server = 115
end_letter_of Client = 99

pub end_is : (from : Role) (line bytes : List ℕ) → line ≡ spelled (Channel from bytes) → end_letter line ≡ end_letter_of from
end_is Server line bytes e = ap end_letter e
end_is Client line bytes e = ap end_letter e

end_at_start : (from : Role) (line : List ℕ) → take 11 line ≡ channel_start from → end_letter line ≡ end_letter_of from
end_at_start Server line start = ap end_letter (in_parts line (codes "dvc server ") (drop 11 line) start refl)
end_at_start Client line start = ap end_letter (in_parts line (codes "dvc client ") (drop 11 line) start refl)

pub no_channel : (from : Role) (line : List ℕ) → take 11 line ≡ channel_start from → ((bytes : List ℕ) → IsAsked (Channel from bytes) → drop 11 line ≢ hex_text bytes) → Breaks line
no_channel from line start none (FirstLayout bytes) is e = omega (arith, letter_channel from line start, letter_is line (FirstLayout bytes) e)
no_channel from line start none (SecondLayout bytes) is e = omega (arith, letter_channel from line start, letter_is line (SecondLayout bytes) e)
no_channel from line start none (Tunnel bytes) is e = omega (arith, letter_channel from line start, letter_is line (Tunnel bytes) e)
no_channel from line start none (MainStream bytes) is e = omega (arith, letter_channel from line start, letter_is line (MainStream bytes) e)
no_channel Server line start none (Channel Server bytes) is e = none bytes is (behind_channel Server line bytes e)
no_channel Client line start none (Channel Client bytes) is e = none bytes is (behind_channel Client line bytes e)
no_channel Server line start none (Channel Client bytes) is e = omega (arith, end_at_start Server line start, end_is Client line bytes e)
no_channel Client line start none (Channel Server bytes) is e = omega (arith, end_at_start Client line start, end_is Server line bytes e)

-- a datagram of the second layout that is too long
same_length : (a b : List ℕ) → IsBytes a → IsBytes b → hex_text a ≡ hex_text b → length a ≡ length b
same_length a b ha hb e = ap length (hex_text-injective a b ha hb e)

pub long_second : (line bytes : List ℕ) → take 3 line ≡ codes "v2 " → IsBytes bytes → drop 3 line ≡ hex_text bytes → 1232 < length bytes → Breaks line
long_second line bytes start is word long =
    no_second line start (λ others asked e. let same = same_length others bytes asked.0 is (sym e ∙ word) in absurd (omega (arith, same, asked.1, long)))
