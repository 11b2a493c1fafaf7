use Rattle.std.proofs.Common.{◌≡◌, ◌++◌, drop, map}
use Rattle.low_forms.specs.Registers.{every}
use Rattle.low_names.specs.Numbers.{func_of}
use Rattle.low_parse.specs.Scopes.{has_numbers}
use Rattle.low_parse.proofs.code.funcs_of.Given as goal

abbrev pub invariant-loop-func : goal.invariant-loop-func
invariant-loop-func l = record {
  made : l.made ++ map (func_of l.names) (drop l.func-index l.funcs) ≡ map (func_of l.names) l.funcs;
  few : every has_numbers (drop l.func-index l.funcs) ≡ every has_numbers l.funcs;
}
