-- `carry_out` goes by the command: a call with the sets given, or none for another `suite` and for a line of any other form.
use borrow.Author.Rules.{rules}
use mathlib.Core.Path.{◌≡◌}
use Rattle.std.specs.Prelude.{Some}
use Rattle.text.specs.declared.Command.TheVariants as command
use Rattle.line.proofs.Calling.{look-on, near_on, insert-on, update-on, remove-on, none-on}
use Rattle.line.proofs.commands.carry_out.Goals as goal

pub returns-in-Some-Look : goal.returns-in-Some-Look
returns-in-Some-Look c =
    let d = c.args.suite.now in
    let k = c.in-Some-Look in
    let e : c.args.command ≡ Some (command.Look k.read k.name) = search rules in
    rw e (look-on d k.read _ c.set_of.ensures k.name _ _ c.lookup_unchecked.ensures c.looked.ensures)

pub returns-in-Some-Near : goal.returns-in-Some-Near
returns-in-Some-Near c =
    let d = c.args.suite.now in
    let k = c.in-Some-Near in
    let e : c.args.command ≡ Some (command.Near k.read k.name) = search rules in
    rw e (near_on d k.read _ c.set_of-in-Some-Near.ensures k.name _ _ c.neighbours_unchecked.ensures c.near.ensures)

pub returns-in-Some-Insert : goal.returns-in-Some-Insert
returns-in-Some-Insert c =
    let d = c.args.suite.now in
    let k = c.in-Some-Insert in
    let e : c.args.command ≡ Some (command.Insert k.read k.write k.name k.value) = search rules in
    rw e
    (insert-on d k.read _ c.set_of-from.ensures k.name _ k.write _ c.set_of-to.ensures _ c.insert_unchecked.new.self k.value
    c.insert_unchecked.ensures c.put.ensures)

pub returns-in-Some-Update : goal.returns-in-Some-Update
returns-in-Some-Update c =
    let d = c.args.suite.now in
    let k = c.in-Some-Update in
    let e : c.args.command ≡ Some (command.Update k.read k.write k.name k.value) = search rules in
    rw e
    (update-on d k.read _ c.set_of-from-in-Some-Update.ensures k.name _ k.write _ c.set_of-to-in-Some-Update.ensures _
    c.update_unchecked.new.self k.value c.update_unchecked.ensures c.put-in-Some-Update.ensures)

pub returns-in-Some-Remove : goal.returns-in-Some-Remove
returns-in-Some-Remove c =
    let d = c.args.suite.now in
    let k = c.in-Some-Remove in
    let e : c.args.command ≡ Some (command.Remove k.read k.write k.name) = search rules in
    rw e
    (remove-on d k.read _ c.set_of-from-in-Some-Remove.ensures k.name _ k.write _ c.set_of-to-in-Some-Remove.ensures _
    c.remove_unchecked.new.self c.remove_unchecked.ensures c.removed.ensures)

pub returns-in-Some-Suite : goal.returns-in-Some-Suite
returns-in-Some-Suite c = let h = none-on c.args.suite.now c.no.result c.no.ensures in search rules
