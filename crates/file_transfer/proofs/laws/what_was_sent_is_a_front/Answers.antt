use Rattle.std.proofs.Common.{◌≤◌, length, arith}
use Rattle.file_transfer.proofs.Fronts.{front}
use Rattle.file_transfer.proofs.laws.what_was_sent_is_a_front.Goals as goal

pub returns : goal.returns
returns c = λ o contents sent files good size h f.
    let few : length o.files.items ≤ 256 = omega arith in
    front o.stage o.files.items o.made o.at contents sent o.draft files few good size h f
