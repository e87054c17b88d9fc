use Rattle.std.proofs.Common.{refl}
use Rattle.rows.specs.Rows.{table}
use Rattle.rows.proofs.Rules.{every_step, every_code}
use Rattle.rows.proofs.laws.rules_stand.Goals as goal

pub returns : goal.returns
unfolding table
returns c = record {
  one_gate = every_step refl;
  one_select = every_step refl;
  one_function = every_step refl;
  waited_for = every_step refl;
  register_at_end = every_step refl;
  write_at_end = every_step refl;
  stop_at_end = every_step refl;
  loops_in_six = every_step refl;
  every_row_ends = every_code refl;
}
