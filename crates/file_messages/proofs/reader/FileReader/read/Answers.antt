use Rattle.std.proofs.Common.{◌≡◌, ◌≢◌, [], ◌∷◌, true, false, length, rules}
use Rattle.mt_base.proofs.Lists.{nothing}
use Rattle.file_messages.specs.Files.{name_message, piece_message}
use Rattle.file_messages.proofs.ReaderSteps.{ended_refuses, end_read, name_read, name_refused, piece_read, piece_refused, other_refused}
use Rattle.file_messages.proofs.reader.FileReader.read.Goals as goal

pub returns-then-self-clause-refused : goal.returns-then-self-clause-refused
returns-then-self-clause-refused c messages files read ended others come =
    let is : c.args.self.now.is_ended ≡ true = search rules in
    ended_refuses c.args.self.now messages files others c.args.message.now ended is read come

pub returns-in_default-clause-read : goal.returns-in_default-clause-read
returns-in_default-clause-read c messages files read =
    let going : c.args.self.now.is_ended ≡ false = search rules in
    let none : length c.args.message.now ≡ 0 = search rules in
    let empty : c.args.message.now ≡ [] = nothing c.args.message.now none in
    end_read c.args.self.now messages files c.args.message.now going empty read

pub returns-in-78-clause-read : goal.returns-in-78-clause-read
returns-in-78-clause-read c =
    let going : c.args.self.now.is_ended ≡ false = search rules in
    let is : c.args.message.now ≡ name_message c.in-Some.rest.now = search rules in
    let e = c.begin.ensures in
    name_read c.begin.result c.args.self.now c.begin.new.self c.args.message.now c.in-Some.rest.now going is e.step e.after e.taken

pub returns-in-78-clause-refused : goal.returns-in-78-clause-refused
returns-in-78-clause-refused c =
    let going : c.args.self.now.is_ended ≡ false = search rules in
    let is : c.args.message.now ≡ name_message c.in-Some.rest.now = search rules in
    name_refused c.begin.result c.args.self.now c.args.message.now c.in-Some.rest.now going is c.begin.ensures.refused

pub returns-in-68-clause-read : goal.returns-in-68-clause-read
returns-in-68-clause-read c =
    let going : c.args.self.now.is_ended ≡ false = search rules in
    let is : c.args.message.now ≡ piece_message c.in-Some.rest.now = search rules in
    let e = c.add.ensures in
    piece_read c.add.result c.args.self.now c.args.message.now c.in-Some.rest.now going is e.step e.taken

pub returns-in-68-clause-refused : goal.returns-in-68-clause-refused
returns-in-68-clause-refused c =
    let going : c.args.self.now.is_ended ≡ false = search rules in
    let is : c.args.message.now ≡ piece_message c.in-Some.rest.now = search rules in
    piece_refused c.add.result c.args.self.now c.args.message.now c.in-Some.rest.now going is c.add.ensures.refused

pub returns-in_default-first-clause-refused : goal.returns-in_default-first-clause-refused
returns-in_default-first-clause-refused c messages files read ended others come =
    let going : c.args.self.now.is_ended ≡ false = search rules in
    let is : c.args.message.now ≡ c.in-Some.first.now ∷ c.in-Some.rest.now = search rules in
    let no_name : c.in-Some.first.now ≢ 78 = search rules in
    let no_piece : c.in-Some.first.now ≢ 68 = search rules in
    other_refused c.args.self.now c.args.message.now c.in-Some.first.now c.in-Some.rest.now going is no_name no_piece messages files read ended others come
