-- Which function a run may begin in.
use Rattle.std.specs.Str.{bytes_eq}
use Rattle.ir_forms.specs.declared.runs.FuncNo.{FuncNo}
use Rattle.ir_verify.specs.declared.entry.EntryFault.{EntryFault}
use Rattle.ir_verify.specs.declared.entry.EntryFault.TheVariants.{NoEntry, EntryType}
use Rattle.std.specs.Prelude.{ℕ, ◌+◌, Result, Ok, Err, ◌||◌, Bool, true, false, List, [], ◌∷◌, if◌then◌else◌}
use Rattle.ir_forms.specs.declared.ops.Func.{Func}
use Rattle.ir_forms.specs.declared.ops.ValueNo.{ValueNo}
use Rattle.ir_forms.specs.declared.types.Ty.{Ty}
use Rattle.ir_forms.specs.declared.types.Ty.TheVariants as ty
use Rattle.ir_verify.specs.Breaks.{some_at}

abbrev pub is_async : Ty → Bool
is_async ty.Token = true
is_async (ty.Value v) = true
is_async ty.Group = true
is_async _ = false

abbrev pub is_async_or_memref : Ty → Bool
is_async_or_memref (ty.Memref m) = true
is_async_or_memref t = is_async t

abbrev pub param_is_async : ℕ → (ValueNo × Ty) → Bool
param_is_async i param = is_async param.1

abbrev pub result_is_refused : ℕ → Ty → Bool
result_is_refused i t = is_async_or_memref t

-- a run may not begin in a function with an async parameter, an async result or a memref result
abbrev pub is_refused_entry : Func → Bool
is_refused_entry f = some_at param_is_async f.params || some_at result_is_refused f.results

-- the answer for the first function of a name, where the functions have the places from k on
abbrev pub entry_from : ℕ → List Func → List ℕ → Result FuncNo EntryFault
entry_from k [] name = Err NoEntry
entry_from k (f ∷ funcs) name =
    if bytes_eq f.name name then (if is_refused_entry f then Err (EntryType f.at) else Ok (record { 0 = k })) else entry_from (k + 1) funcs name
