-- The tokens of worked code are read back, by computing.
use Rattle.std.proofs.Common.{refl}
use Rattle.std.specs.Fmt.{digits}
use Rattle.module_grammar.specs.Tokens.{number_of, type_of, memref_type}
use Rattle.low_grammar.specs.State.{does}
use Rattle.low_grammar.specs.Rules.{is_of, allows}
use Rattle.mlir_print.specs.Types.{value_word}
use Rattle.low_names.specs.Worked.{ComesBack, sum_code, task_code, WorkedCodeComesBack}

sum_comes : ComesBack sum_code
unfolding does is_of allows number_of type_of memref_type value_word digits
sum_comes = record { reads = refl; means = refl }

task_comes : ComesBack task_code
unfolding does is_of allows number_of type_of memref_type value_word digits
task_comes = record { reads = refl; means = refl }

pub comes_back : WorkedCodeComesBack
comes_back = (sum_comes, task_comes)
