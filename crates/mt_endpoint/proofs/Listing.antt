-- A Soft-Sync request lists channels that no earlier one listed.
use Rattle.std.proofs.Common.{◌≡◌, ◌+◌, ◌<◌, List, [], ◌∷◌, ◌++◌, map, length, refl, sym, ap, subst, ◌∙◌, length-append}
use Rattle.mt_base.specs.declared.kinds.Role.{Role}
use Rattle.mt_base.specs.declared.kinds.Role.TheVariants.{Server, Client}
use Rattle.mt_base.specs.Trace.{Trace, Start, ◌▷◌}
use Rattle.soft_sync.specs.Exchanges.{Request}
use Rattle.soft_sync.specs.Words.{request_of}
use Rattle.mt_endpoint.specs.Acts.{Act, Syncs, Heard}
use Rattle.mt_endpoint.specs.Moving.{all_told, made_by, request_read}
use Rattle.mt_endpoint.specs.Writing.{adds, on_main, spoken}
use Rattle.mt_endpoint.specs.Alone.{IsAct, EndOfActs}
use Rattle.mt_endpoint.specs.Orders.{EachMay, is_among, told_by, ids_in, listings, requests_told, EachNew, MovesMay, MayList}
pub use Rattle.mt_endpoint.proofs.Distinct.{ids_of, other_way}
use Rattle.mt_endpoint.proofs.Distinct.{ids_of-append, ids_made, unlisted, out_all, new_all, few_made}
use Rattle.mt_endpoint.proofs.Creating.{told-append, data_tells}
use Rattle.mt_endpoint.proofs.Written.{request_written}
use Rattle.mt_endpoint.proofs.Answering.{map-append}
use Rattle.mt_endpoint.proofs.Sources.{Source, begun, opens, asks_for, tells, syncs, closes, answers, heard_capable, heard_creates, heard_ends, released_ends, Adds, nothing, frame, sends, adds_what, each_written}

-- ---- requests on the main stream are those that were made

pub record Told (xs : List Heard) (rs : List Request) : Type 0 where
  pub ids_are : told_by listings xs ≡ ids_of rs
  pub as_many : length (told_by requests_told xs) ≡ length rs
  pub requests_are : map request_read (told_by requests_told xs) ≡ rs

pub told_more : (xs ys : List Heard) (rs qs : List Request) → Told xs rs → Told ys qs → Told (xs ++ ys) (rs ++ qs)
told_more xs ys rs qs old new = record {
  ids_are = told-append listings xs ys ∙ ap (λ l. l ++ told_by listings ys) old.ids_are ∙ ap (λ l. ids_of rs ++ l) new.ids_are ∙ sym (ids_of-append rs qs);
  as_many = ap length (told-append requests_told xs ys) ∙ length-append (told_by requests_told xs) (told_by requests_told ys) ∙ ap (λ n. n + length (told_by requests_told ys)) old.as_many
      ∙ ap (λ n. length rs + n) new.as_many ∙ sym (length-append rs qs);
  requests_are = ap (map request_read) (told-append requests_told xs ys) ∙ map-append request_read (told_by requests_told xs) (told_by requests_told ys)
      ∙ ap (λ l. l ++ map request_read (told_by requests_told ys)) old.requests_are ∙ ap (λ l. rs ++ l) new.requests_are;
}

frame_lists : (role : Role) (t : Trace Act) (act : Act) (x : Heard) → Source role t act x → made_by act ≡ [] → Told (x ∷ []) []
frame_lists role t _ _ (begun r) h = record { ids_are = refl; as_many = refl; requests_are = refl }
frame_lists role t _ _ (opens id name) h = record { ids_are = refl; as_many = refl; requests_are = refl }
frame_lists role t _ _ (asks_for kind id cookie) h = record { ids_are = refl; as_many = refl; requests_are = refl }
frame_lists role t _ _ (tells act id hr r) h = record { ids_are = refl; as_many = refl; requests_are = refl }
frame_lists role t _ _ (syncs reliable lossy) h = absurd (let no : request_of reliable lossy ∷ [] ≡ [] = h in cc)
frame_lists role t _ _ (closes id) h = record { ids_are = refl; as_many = refl; requests_are = refl }
frame_lists role t _ _ (answers named) h = record { ids_are = refl; as_many = refl; requests_are = refl }
frame_lists role t _ _ (heard_capable pdu version s r) h = record { ids_are = refl; as_many = refl; requests_are = refl }
frame_lists role t _ _ (heard_creates pdu id name s r) h = record { ids_are = refl; as_many = refl; requests_are = refl }
frame_lists role t _ _ (heard_ends pdu id s c) h = record { ids_are = refl; as_many = refl; requests_are = refl }
frame_lists role t _ _ (released_ends kind at bytes pdu id s c) h = record { ids_are = refl; as_many = refl; requests_are = refl }

added_lists : (role : Role) (t : Trace Act) (act : Act) (xs : List Heard) → Adds role t act xs → made_by act ≡ [] → Told xs []
added_lists role t act _ (nothing _) h = record { ids_are = refl; as_many = refl; requests_are = refl }
added_lists role t act _ (frame _ x s) h = frame_lists role t act x s h
added_lists role t _ xs (sends id message _ all) h = record { ids_are = data_tells listings (λ x. refl) id xs all; as_many = ap length (data_tells requests_told (λ x. refl) id xs all); requests_are = ap (map request_read) (data_tells requests_told (λ x. refl) id xs all) }

lists_new : (role : Role) (t : Trace Act) (act : Act) → IsAct role t act → Told (on_main (adds role t act)) (made_by act)
lists_new role t (Syncs reliable lossy) a = record {
  ids_are = ap (λ l. l ++ []) (ap (λ (r : Request). ids_in r.channels) (request_written reliable lossy));
  as_many = refl;
  requests_are = ap (λ r. r ∷ []) (request_written reliable lossy);
}
lists_new role t act a = added_lists role t act _ (adds_what role t act a) refl

pub lists_are : (role : Role) (t : Trace Act) → EndOfActs role t → Told (spoken role t) (all_told made_by t)
lists_are role Start e = record { ids_are = refl; as_many = refl; requests_are = refl }
lists_are role (t ▷ act) e = told_more (spoken role t) (on_main (adds role t act)) (all_told made_by t) (made_by act) (lists_are role t e.2) (lists_new role t act e.1)

-- ---- each request is new

frame_may : (role : Role) (t : Trace Act) (act : Act) (x : Heard) → EndOfActs role (t ▷ act) → Source role t act x → MayList (spoken role t) x
frame_may role t _ _ e (begun r) = tt
frame_may role t _ _ e (opens id name) = tt
frame_may role t _ _ e (asks_for kind id cookie) = tt
frame_may role t _ _ e (tells act id hr r) = tt
frame_may Client t _ _ e (syncs reliable lossy) = absurd (let no : Client ≡ Server = e.1.0.0 in cc)
frame_may Server t _ _ e (syncs reliable lossy) =
    let told = lists_are Server t e.2 in
    let seen = told_by listings (spoken Server t) in
    let may = e.1.0.1.may_move in
    let away = out_all t seen (reliable ++ lossy) (λ id h. ap (is_among id) told.ids_are ∙ unlisted id (all_told made_by t) _ h) may in
    (subst (λ n. n < 256) (sym told.as_many) (few_made t reliable lossy e.2 e.1.0.1), subst (EachNew seen) (sym (ids_made reliable lossy)) (new_all t seen (reliable ++ lossy) away may))
frame_may role t _ _ e (closes id) = tt
frame_may role t _ _ e (answers named) = tt
frame_may role t _ _ e (heard_capable pdu version s r) = tt
frame_may role t _ _ e (heard_creates pdu id name s r) = tt
frame_may role t _ _ e (heard_ends pdu id s c) = tt
frame_may role t _ _ e (released_ends kind at bytes pdu id s c) = tt

pub listed_once : (role : Role) (t : Trace Act) → EndOfActs role t → EachMay MayList [] (spoken role t)
listed_once role t e = each_written role MayList (frame_may role) (λ t id message pdu before e s p. subst (MovesMay before) (sym s) tt) t e
