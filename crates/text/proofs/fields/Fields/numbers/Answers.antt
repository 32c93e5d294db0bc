-- `text::fields::Fields::numbers` answers the group's numbers.
use Rattle.std.proofs.Common.{rules, length, ◌-◌, take}
use Rattle.text.specs.Lines.{fields_left, group}
use Rattle.text.proofs.Groups.{group_turn, group_done, group_here_end, group_here_slash}
use Rattle.text.proofs.fields.Fields.numbers.Goals.{in_default, in-Some+then-ends_group}
use Rattle.text.proofs.fields.Fields.numbers.Goals as goal

pub loop-field-preserved : goal.loop-field-preserved
loop-field-preserved g c = (
  search rules,
  search rules,
  group_turn g.T.Number.said c.args.end (fields_left c.args.self.now) (fields_left c.loop-field.self) c.in-Some.field.now (fields_left c.next.new.self) c.loop-field.into c.loop-field.count
      c.in_ok-into.field-0 (search rules) (search rules) (search rules) (search rules) (search rules) (search rules),
)

pub returns-then-eq : goal.returns-then-eq
returns-then-eq g c =
    group_done (take c.loop-field.count c.loop-field.into) _ (group g.T.Number.said c.args.end (length c.loop-field.into - c.loop-field.count) (fields_left c.loop-field.self)) (fields_left c.next.new.self)
    (search rules)
    (elim c.match-next.branch [
      | in_default w ↦ group_here_end g.T.Number.said c.args.end (length c.loop-field.into - c.loop-field.count) (fields_left c.loop-field.self) (fields_left c.next.new.self) (search rules) (search rules) (search rules)
      | in-Some+then-ends_group w ↦ group_here_slash g.T.Number.said c.args.end (length c.loop-field.into - c.loop-field.count) w.in-Some.field.now (fields_left c.loop-field.self) (fields_left c.next.new.self) (search rules) (search rules) (search rules)
    ])
