use Rattle.std.proofs.Common.{◌≡◌, ◌+◌, ◌*◌, List}
use Rattle.mt_base.specs.declared.kinds.Role.{Role}
use Rattle.mt_base.specs.Trace.{Trace}
use Rattle.end_calls.specs.Calls.{Entry}
use Rattle.endpoint.specs.Laws.{KeepsLaws}
use Rattle.endpoint.specs.Standing.{EndStands}
use Rattle.file_messages.specs.Files.{File, Message}
use Rattle.file_transfer.specs.Sending.{HasSent, to_do, waiting}
use Rattle.std.specs.Prelude.{length}
use Rattle.file_session.specs.Messages.{sent}
use Rattle.file_session.specs.Sending.{SendsOn, SentSome}
use Rattle.file_session.proofs.sending.send_files.Given as goal

abbrev pub invariant-loop-outgoing : goal.invariant-loop-outgoing
invariant-loop-outgoing g l = record {
  laws : KeepsLaws g.C.Carrier.law g.P.Post.law l.fn.end l.end;
  faults : g.F.FileStore.faults l.store ≡ g.F.FileStore.faults l.fn.store;
  same : g.F.FileStore.told l.store ≡ g.F.FileStore.told l.fn.store;
  files : l.outgoing.files.items ≡ l.fn.outgoing.files.items;
  held : (messages : List Message) × (files : List File) × HasSent l.outgoing messages files;
  calls : (role : Role) (t : Trace Entry) → EndStands g.C.Carrier.stands g.C.Carrier.left g.C.Carrier.condition g.P.Post.stands g.P.Post.left g.P.Post.condition l.fn.end role t → SendsOn (λ u. EndStands g.C.Carrier.stands g.C.Carrier.left g.C.Carrier.condition g.P.Post.stands g.P.Post.left g.P.Post.condition l.end role u) t;
  sent : (role : Role) (t : Trace Entry) (files : List File) → EndStands g.C.Carrier.stands g.C.Carrier.left g.C.Carrier.condition g.P.Post.stands g.P.Post.left g.P.Post.condition l.fn.end role t → HasSent l.fn.outgoing (sent t) files →
      SentSome (λ u. EndStands g.C.Carrier.stands g.C.Carrier.left g.C.Carrier.condition g.P.Post.stands g.P.Post.left g.P.Post.condition l.end role u) t files (g.F.FileStore.told l.fn.store) l.fn.outgoing l.outgoing;
}

abbrev pub decreases-loop-outgoing : goal.decreases-loop-outgoing
decreases-loop-outgoing g l = 2 * to_do l.outgoing + length (waiting l.outgoing.draft)
