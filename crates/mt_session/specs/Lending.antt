-- A session whose end is lent.
use Rattle.mt_session.specs.declared.session.Session.{Session}

-- the session with this end
abbrev pub with_end : {E : Type 0} → Session E → E → Session E
with_end session end = record session { end = end }
