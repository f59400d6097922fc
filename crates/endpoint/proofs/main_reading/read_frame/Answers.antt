use Rattle.endpoint.proofs.FrameRead.{reached_alone, reached_with}
use Rattle.endpoint.proofs.main_reading.read_frame.Goals as goal

pub returns-in-Some-clause-reached : goal.returns-in-Some-clause-reached
returns-in-Some-clause-reached g c unread sent role p l queued way =
    let r = c.read_main-count.ensures in
    let w = c.give_waiting.ensures in
    reached_with _ _ _ _ unread sent role p l queued c.args.reader.now c.read_main-count.new.self c.given.new.self c.args.reliable.now _ c.give_waiting.new.link c.args.bytes.now _ c.read_main-count.result c.in-Some.is way c.requires.free r.took r.same r.reliable r.lossy
    c.waiting.ensures w.trace w.load w.none w.left w.state c.given.ensures.stands c.given.ensures.left

pub returns-in-Some-clause-count : goal.returns-in-Some-clause-count
returns-in-Some-clause-count g c =
    let k = c.requires.lawful in c.read_main-count.ensures.count k.3 k.6.gone k.6.reads

pub returns-in_default-clause-reached : goal.returns-in_default-clause-reached
returns-in_default-clause-reached g c unread sent role p l queued way =
    let r = c.read_main-count.ensures in
    reached_alone _ _ _ _ unread sent role p l queued c.args.reader.now c.read_main-count.new.self c.args.reliable.now c.args.bytes.now c.read_main-count.result c.in_default.is way r.took r.same r.lossy

pub returns-in_default-clause-count : goal.returns-in_default-clause-count
returns-in_default-clause-count g c =
    let k = c.requires.lawful in c.read_main-count.ensures.count k.3 k.6.gone k.6.reads
