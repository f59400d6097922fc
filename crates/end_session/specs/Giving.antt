-- What a link was given.
use Rattle.mt_base.specs.declared.kinds.Kind.{Kind}
use Rattle.mt_base.specs.declared.kinds.Kind.TheVariants.{Reliable, Lossy}
use Rattle.mt_base.specs.declared.kinds.Role.{Role}
use Rattle.mt_base.specs.Trace.{Trace}
use Rattle.mt_endpoint.specs.Acts.{Act}
use Rattle.mt_endpoint.specs.Writing.{carried}
use Rattle.end_session.specs.Standing.{Gone}

-- all PDUs that were written for the link of this kind were handed out
abbrev pub all_given : Role → Kind → Trace Act → Gone → Gone
all_given role Reliable t gone = record gone { reliable = carried Reliable role t }
all_given role Lossy t gone = record gone { lossy = carried Lossy role t }
