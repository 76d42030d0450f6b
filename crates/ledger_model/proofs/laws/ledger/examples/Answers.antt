use Rattle.std.proofs.Common.{refl}
use Rattle.ledger_model.{specs.Limits.default_limits, specs.Examples.{narrow_limits, first_run, late_event, falling_register, conflict, other_direction, void_and_restore, full_until_erased}, proofs.Examples.{energy_after, answers_to}}
use Rattle.ledger_model.proofs.laws.ledger.examples.Goals as goal

pub returns-clause-first_run : goal.returns-clause-first_run
returns-clause-first_run c = energy_after default_limits first_run _ refl

pub returns-clause-late_event : goal.returns-clause-late_event
returns-clause-late_event c = energy_after default_limits late_event _ refl

pub returns-clause-falling_register : goal.returns-clause-falling_register
returns-clause-falling_register c = energy_after default_limits falling_register _ refl

pub returns-clause-conflict : goal.returns-clause-conflict
returns-clause-conflict c = answers_to default_limits conflict _ refl

pub returns-clause-other_direction : goal.returns-clause-other_direction
returns-clause-other_direction c = answers_to default_limits other_direction _ refl

pub returns-clause-void_and_restore : goal.returns-clause-void_and_restore
returns-clause-void_and_restore c = answers_to default_limits void_and_restore _ refl

pub returns-clause-full_until_erased : goal.returns-clause-full_until_erased
returns-clause-full_until_erased c = answers_to narrow_limits full_until_erased _ refl
