use Rattle.end_reader.proofs.Begun.{begun}
use Rattle.end_reader.proofs.reader.Reader.new.Goals as goal

pub returns-clause-reads : goal.returns-clause-reads
returns-clause-reads c =
    begun c.in_ok-new.field-0 c.new-2.result c.new-3.result c.args.role c.in_ok-new.ensures.role c.in_ok-new.ensures.whole c.new-2.ensures c.new-3.ensures c.in_ok-new.ensures.stands
