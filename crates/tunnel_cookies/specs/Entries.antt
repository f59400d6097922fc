-- The table of issued cookies as the list of its entries in order of issue, each with its id.
use Rattle.std.specs.Prelude.{◌≡◌, ◌≢◌, ℕ, List, [], ◌∷◌, ◌++◌, length, All, nat_eq, Option, Some, None, IsSome}
use Rattle.std.specs.Map.{lookup, set_value}
use Rattle.sha2.specs.Sha256.{sha256}
use Rattle.tunnel_cookies.specs.declared.entry.IssueRefusal.{IssueRefusal}
use Rattle.tunnel_cookies.specs.declared.entry.IssueRefusal.TheVariants as refusal
use Rattle.mt_base.specs.declared.kinds.Kind.{Kind}
use Rattle.tunnel_cookies.specs.declared.entry.Entry.{Entry}
use Rattle.tunnel_cookies.specs.declared.entry.Verdict.{Verdict}
use Rattle.tunnel_cookies.specs.declared.entry.Verdict.TheVariants.{Opened, Again, Unknown, WrongCookie, WrongKind, Spent}

abbrev pub Entries : Type 0
Entries = List (ℕ × Entry)

-- the entry of an id
abbrev pub entry_of : ℕ → Entries → Option Entry
entry_of id entries = lookup (nat_eq id) entries

-- the entry of a cookie that no link has spent
abbrev pub unspent : Kind → List ℕ → Entry
unspent kind cookie = record { kind = kind; cookie = cookie; spender = None }

-- the same entry, spent by this link
abbrev pub spent_by : ℕ → Entry → Entry
spent_by link e = record { kind = e.kind; cookie = e.cookie; spender = Some link }

-- The verdict on a link that asks: the first of these that holds of its entry.
pub data IsVerdict (link : ℕ) (kind : Kind) (cookie : List ℕ) : Option Entry → Verdict → Type 0 where
  unknown : IsVerdict link kind cookie None Unknown
  wrong_cookie : (e : Entry) → cookie ≢ e.cookie → IsVerdict link kind cookie (Some e) WrongCookie
  wrong_kind : (e : Entry) → cookie ≡ e.cookie → kind ≢ e.kind → IsVerdict link kind cookie (Some e) WrongKind
  again : (e : Entry) → cookie ≡ e.cookie → kind ≡ e.kind → e.spender ≡ Some link → IsVerdict link kind cookie (Some e) Again
  spent : (e : Entry) (other : ℕ) → cookie ≡ e.cookie → kind ≡ e.kind → e.spender ≡ Some other → other ≢ link
      → IsVerdict link kind cookie (Some e) (Spent other)
  opened : (e : Entry) → cookie ≡ e.cookie → kind ≡ e.kind → e.spender ≡ None → IsVerdict link kind cookie (Some e) Opened

-- the table after a verdict: the entry that opened a tunnel is spent by that link
abbrev pub after : ℕ → ℕ → Verdict → Option Entry → Entries → Entries
after link id Opened (Some e) entries = set_value (nat_eq id) entries (spent_by link e)
after link id Opened None entries = entries
after link id Again e entries = entries
after link id Unknown e entries = entries
after link id WrongCookie e entries = entries
after link id WrongKind e entries = entries
after link id (Spent other) e entries = entries

-- why an id gets no entry: it has one, or else the table has 16
abbrev pub WhyNot : ℕ → Entries → IssueRefusal → Type 0
WhyNot id entries refusal.Known = IsSome (entry_of id entries)
WhyNot id entries (refusal.TooMany limit) = (entry_of id entries ≡ None) × (length entries ≡ 16) × (limit ≡ 16)

-- no cookie of the entries has this SHA-256
abbrev pub NoneHas : List ℕ → Entries → Type 0
NoneHas hash entries = All (λ e. sha256 (e.1).cookie ≢ hash) entries

-- the first entry whose cookie has it
pub record FirstHas (hash : List ℕ) (entries : Entries) (id : ℕ) : Type 0 where
  pub before : Entries
  pub entry : Entry
  pub rest : Entries
  pub entries_are : entries ≡ before ++ ((id, entry) ∷ rest)
  pub has : sha256 entry.cookie ≡ hash
  pub none_before : NoneHas hash before

-- what happens to a table
pub data Step : Type 0 where
  issues : (id : ℕ) (kind : Kind) (cookie : List ℕ) → Step
  opens : (link : ℕ) (kind : Kind) (id : ℕ) (cookie : List ℕ) (v : Verdict) → Step

-- a table after a step, and after steps in order
pub data Steps : Entries → List Step → Entries → Type 0 where
  done : (entries : Entries) → Steps entries [] entries
  issued : (entries last : Entries) (id : ℕ) (kind : Kind) (cookie : List ℕ) (steps : List Step) → entry_of id entries ≡ None
      → Steps (entries ++ ((id, unspent kind cookie) ∷ [])) steps last → Steps entries (issues id kind cookie ∷ steps) last
  asked : (entries last : Entries) (link : ℕ) (kind : Kind) (id : ℕ) (cookie : List ℕ) (v : Verdict) (steps : List Step)
      → IsVerdict link kind cookie (entry_of id entries) v → Steps (after link id v (entry_of id entries) entries) steps last
      → Steps entries (opens link kind id cookie v ∷ steps) last
