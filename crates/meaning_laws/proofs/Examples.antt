-- The definitions compute what each worked module comes to.
use mathlib.Core.Path.{refl}
use Rattle.ir_forms.specs.declared.ops.Op.{roll-Op, out-Op}
use Rattle.ir_forms.specs.declared.ops.Region.{roll-Region, out-Region}
use Rattle.ir_forms.specs.declared.ops.Op.TheBlock.{shown-the_row-Op-1}
use Rattle.int_ops.specs.Arithmetic.{arith_result, residue, signed_reading, sign_extended, is_least, is_minus_one, compares}
use Rattle.meaning_laws.specs.Worked.{WorkedModules, adds_forty_and_two_comes, fuel_of_three_is_spent_comes, fuel_of_four_is_enough_comes, awaits_a_value_comes, a_failed_dependency_ends_its_task_comes, a_group_is_short_comes, a_group_is_overfull_comes, a_token_is_added_twice_comes, unordered_writes_comes, ordered_writes_comes, a_parallel_loop_fills_three_cells_comes, a_parallel_loop_of_no_turns_comes, a_step_of_zero_fails_comes, a_failure_fails_its_caller_comes, least_by_minus_one_fails_comes, division_rounds_toward_zero_comes, a_function_awaits_tokens_comes, a_product_of_matrices_comes, cells_run_out_comes, too_great_a_size_fails_comes, calls_without_end_comes, cells_are_not_given_back_comes}

adds_forty_and_two_holds : adds_forty_and_two_comes
unfolding out-Op roll-Op out-Region roll-Region denote.Hole.Carrier.out denote.Hole.Carrier.roll shown-the_row-Op-1 denote.Hole.Carrier.shown denote.Hole.Carrier.hidden arith_result residue signed_reading sign_extended is_least is_minus_one compares
adds_forty_and_two_holds = refl

fuel_of_three_is_spent_holds : fuel_of_three_is_spent_comes
unfolding out-Op roll-Op out-Region roll-Region denote.Hole.Carrier.out denote.Hole.Carrier.roll shown-the_row-Op-1 denote.Hole.Carrier.shown denote.Hole.Carrier.hidden arith_result residue signed_reading sign_extended is_least is_minus_one compares
fuel_of_three_is_spent_holds = refl

fuel_of_four_is_enough_holds : fuel_of_four_is_enough_comes
unfolding out-Op roll-Op out-Region roll-Region denote.Hole.Carrier.out denote.Hole.Carrier.roll shown-the_row-Op-1 denote.Hole.Carrier.shown denote.Hole.Carrier.hidden arith_result residue signed_reading sign_extended is_least is_minus_one compares
fuel_of_four_is_enough_holds = refl

awaits_a_value_holds : awaits_a_value_comes
unfolding out-Op roll-Op out-Region roll-Region denote.Hole.Carrier.out denote.Hole.Carrier.roll shown-the_row-Op-1 denote.Hole.Carrier.shown denote.Hole.Carrier.hidden arith_result residue signed_reading sign_extended is_least is_minus_one compares
awaits_a_value_holds = refl

a_failed_dependency_ends_its_task_holds : a_failed_dependency_ends_its_task_comes
unfolding out-Op roll-Op out-Region roll-Region denote.Hole.Carrier.out denote.Hole.Carrier.roll shown-the_row-Op-1 denote.Hole.Carrier.shown denote.Hole.Carrier.hidden arith_result residue signed_reading sign_extended is_least is_minus_one compares
a_failed_dependency_ends_its_task_holds = refl

a_group_is_short_holds : a_group_is_short_comes
unfolding out-Op roll-Op out-Region roll-Region denote.Hole.Carrier.out denote.Hole.Carrier.roll shown-the_row-Op-1 denote.Hole.Carrier.shown denote.Hole.Carrier.hidden arith_result residue signed_reading sign_extended is_least is_minus_one compares
a_group_is_short_holds = refl

a_group_is_overfull_holds : a_group_is_overfull_comes
unfolding out-Op roll-Op out-Region roll-Region denote.Hole.Carrier.out denote.Hole.Carrier.roll shown-the_row-Op-1 denote.Hole.Carrier.shown denote.Hole.Carrier.hidden arith_result residue signed_reading sign_extended is_least is_minus_one compares
a_group_is_overfull_holds = refl

a_token_is_added_twice_holds : a_token_is_added_twice_comes
unfolding out-Op roll-Op out-Region roll-Region denote.Hole.Carrier.out denote.Hole.Carrier.roll shown-the_row-Op-1 denote.Hole.Carrier.shown denote.Hole.Carrier.hidden arith_result residue signed_reading sign_extended is_least is_minus_one compares
a_token_is_added_twice_holds = refl

unordered_writes_holds : unordered_writes_comes
unfolding out-Op roll-Op out-Region roll-Region denote.Hole.Carrier.out denote.Hole.Carrier.roll shown-the_row-Op-1 denote.Hole.Carrier.shown denote.Hole.Carrier.hidden arith_result residue signed_reading sign_extended is_least is_minus_one compares
unordered_writes_holds = refl

ordered_writes_holds : ordered_writes_comes
unfolding out-Op roll-Op out-Region roll-Region denote.Hole.Carrier.out denote.Hole.Carrier.roll shown-the_row-Op-1 denote.Hole.Carrier.shown denote.Hole.Carrier.hidden arith_result residue signed_reading sign_extended is_least is_minus_one compares
ordered_writes_holds = refl

a_parallel_loop_fills_three_cells_holds : a_parallel_loop_fills_three_cells_comes
unfolding out-Op roll-Op out-Region roll-Region denote.Hole.Carrier.out denote.Hole.Carrier.roll shown-the_row-Op-1 denote.Hole.Carrier.shown denote.Hole.Carrier.hidden arith_result residue signed_reading sign_extended is_least is_minus_one compares
a_parallel_loop_fills_three_cells_holds = refl

a_parallel_loop_of_no_turns_holds : a_parallel_loop_of_no_turns_comes
unfolding out-Op roll-Op out-Region roll-Region denote.Hole.Carrier.out denote.Hole.Carrier.roll shown-the_row-Op-1 denote.Hole.Carrier.shown denote.Hole.Carrier.hidden arith_result residue signed_reading sign_extended is_least is_minus_one compares
a_parallel_loop_of_no_turns_holds = refl

a_step_of_zero_fails_holds : a_step_of_zero_fails_comes
unfolding out-Op roll-Op out-Region roll-Region denote.Hole.Carrier.out denote.Hole.Carrier.roll shown-the_row-Op-1 denote.Hole.Carrier.shown denote.Hole.Carrier.hidden arith_result residue signed_reading sign_extended is_least is_minus_one compares
a_step_of_zero_fails_holds = refl

a_failure_fails_its_caller_holds : a_failure_fails_its_caller_comes
unfolding out-Op roll-Op out-Region roll-Region denote.Hole.Carrier.out denote.Hole.Carrier.roll shown-the_row-Op-1 denote.Hole.Carrier.shown denote.Hole.Carrier.hidden arith_result residue signed_reading sign_extended is_least is_minus_one compares
a_failure_fails_its_caller_holds = refl

least_by_minus_one_fails_holds : least_by_minus_one_fails_comes
unfolding out-Op roll-Op out-Region roll-Region denote.Hole.Carrier.out denote.Hole.Carrier.roll shown-the_row-Op-1 denote.Hole.Carrier.shown denote.Hole.Carrier.hidden arith_result residue signed_reading sign_extended is_least is_minus_one compares
least_by_minus_one_fails_holds = refl

division_rounds_toward_zero_holds : division_rounds_toward_zero_comes
unfolding out-Op roll-Op out-Region roll-Region denote.Hole.Carrier.out denote.Hole.Carrier.roll shown-the_row-Op-1 denote.Hole.Carrier.shown denote.Hole.Carrier.hidden arith_result residue signed_reading sign_extended is_least is_minus_one compares
division_rounds_toward_zero_holds = refl

a_function_awaits_tokens_holds : a_function_awaits_tokens_comes
unfolding out-Op roll-Op out-Region roll-Region denote.Hole.Carrier.out denote.Hole.Carrier.roll shown-the_row-Op-1 denote.Hole.Carrier.shown denote.Hole.Carrier.hidden arith_result residue signed_reading sign_extended is_least is_minus_one compares
a_function_awaits_tokens_holds = refl

a_product_of_matrices_holds : a_product_of_matrices_comes
unfolding out-Op roll-Op out-Region roll-Region denote.Hole.Carrier.out denote.Hole.Carrier.roll shown-the_row-Op-1 denote.Hole.Carrier.shown denote.Hole.Carrier.hidden arith_result residue signed_reading sign_extended is_least is_minus_one compares
a_product_of_matrices_holds = refl

cells_run_out_holds : cells_run_out_comes
unfolding out-Op roll-Op out-Region roll-Region denote.Hole.Carrier.out denote.Hole.Carrier.roll shown-the_row-Op-1 denote.Hole.Carrier.shown denote.Hole.Carrier.hidden arith_result residue signed_reading sign_extended is_least is_minus_one compares
cells_run_out_holds = refl

too_great_a_size_fails_holds : too_great_a_size_fails_comes
unfolding out-Op roll-Op out-Region roll-Region denote.Hole.Carrier.out denote.Hole.Carrier.roll shown-the_row-Op-1 denote.Hole.Carrier.shown denote.Hole.Carrier.hidden arith_result residue signed_reading sign_extended is_least is_minus_one compares
too_great_a_size_fails_holds = refl

calls_without_end_holds : calls_without_end_comes
unfolding out-Op roll-Op out-Region roll-Region denote.Hole.Carrier.out denote.Hole.Carrier.roll shown-the_row-Op-1 denote.Hole.Carrier.shown denote.Hole.Carrier.hidden arith_result residue signed_reading sign_extended is_least is_minus_one compares
calls_without_end_holds = refl

cells_are_not_given_back_holds : cells_are_not_given_back_comes
unfolding out-Op roll-Op out-Region roll-Region denote.Hole.Carrier.out denote.Hole.Carrier.roll shown-the_row-Op-1 denote.Hole.Carrier.shown denote.Hole.Carrier.hidden arith_result residue signed_reading sign_extended is_least is_minus_one compares
cells_are_not_given_back_holds = refl

pub worked_modules : WorkedModules
worked_modules = record {
  adds_forty_and_two = adds_forty_and_two_holds;
  fuel_of_three_is_spent = fuel_of_three_is_spent_holds;
  fuel_of_four_is_enough = fuel_of_four_is_enough_holds;
  awaits_a_value = awaits_a_value_holds;
  a_failed_dependency_ends_its_task = a_failed_dependency_ends_its_task_holds;
  a_group_is_short = a_group_is_short_holds;
  a_group_is_overfull = a_group_is_overfull_holds;
  a_token_is_added_twice = a_token_is_added_twice_holds;
  unordered_writes = unordered_writes_holds;
  ordered_writes = ordered_writes_holds;
  a_parallel_loop_fills_three_cells = a_parallel_loop_fills_three_cells_holds;
  a_parallel_loop_of_no_turns = a_parallel_loop_of_no_turns_holds;
  a_step_of_zero_fails = a_step_of_zero_fails_holds;
  a_failure_fails_its_caller = a_failure_fails_its_caller_holds;
  least_by_minus_one_fails = least_by_minus_one_fails_holds;
  division_rounds_toward_zero = division_rounds_toward_zero_holds;
  a_function_awaits_tokens = a_function_awaits_tokens_holds;
  a_product_of_matrices = a_product_of_matrices_holds;
  cells_run_out = cells_run_out_holds;
  too_great_a_size_fails = too_great_a_size_fails_holds;
  calls_without_end = calls_without_end_holds;
  cells_are_not_given_back = cells_are_not_given_back_holds;
}
