use Rattle.std.proofs.Common.{◌≡◌, List, length, string_bytes}
use Rattle.mt_base.specs.declared.kinds.Role.{Role}
use Rattle.mt_base.specs.Trace.{Trace}
use Rattle.end_calls.specs.Calls.{Entry}
use Rattle.endpoint.specs.Laws.{KeepsLaws}
use Rattle.endpoint.specs.Standing.{EndStands}
use Rattle.file_messages.specs.Files.{File}
use Rattle.file_transfer.specs.Keeping.{HasKept}
use Rattle.file_session.specs.Messages.{handed}
use Rattle.file_session.specs.Taking.{HandsOut, TookSome, waiting_at}
use Rattle.file_session.proofs.taking.take_files.Given as goal

abbrev pub invariant-messages : goal.invariant-messages
invariant-messages g l = record {
  laws : KeepsLaws g.C.Carrier.law g.P.Post.law l.fn.end l.end;
  faults : g.F.FileStore.faults l.store ≡ g.F.FileStore.faults l.fn.store;
  prefix : string_bytes l.incoming.arrivals.prefix ≡ string_bytes l.fn.incoming.arrivals.prefix;
  stands : (role : Role) × (t : Trace Entry) × EndStands g.C.Carrier.stands g.C.Carrier.left g.C.Carrier.condition g.P.Post.stands g.P.Post.left g.P.Post.condition l.end role t;
  calls : (role : Role) (t : Trace Entry) → EndStands g.C.Carrier.stands g.C.Carrier.left g.C.Carrier.condition g.P.Post.stands g.P.Post.left g.P.Post.condition l.fn.end role t →
      HandsOut (λ u. EndStands g.C.Carrier.stands g.C.Carrier.left g.C.Carrier.condition g.P.Post.stands g.P.Post.left g.P.Post.condition l.end role u) t;
  took : (role : Role) (t : Trace Entry) (files : List File) → EndStands g.C.Carrier.stands g.C.Carrier.left g.C.Carrier.condition g.P.Post.stands g.P.Post.left g.P.Post.condition l.fn.end role t → HasKept l.fn.incoming (handed t) files →
      TookSome (λ u. EndStands g.C.Carrier.stands g.C.Carrier.left g.C.Carrier.condition g.P.Post.stands g.P.Post.left g.P.Post.condition l.end role u) t (string_bytes l.fn.incoming.arrivals.prefix) files l.incoming (g.F.FileStore.told l.fn.store) (g.F.FileStore.told l.store);
}

abbrev pub decreases-messages : goal.decreases-messages
decreases-messages g l = length (waiting_at 1 l.end)
