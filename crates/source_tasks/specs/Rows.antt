-- What an operation does, by classes of kinds.
use Rattle.std.specs.Prelude.{List, [], slice_get}
use Rattle.ir_verify.specs.Calls.{callee_place}
use Rattle.source_meaning.specs.declared.values.Val.{Val}
use Rattle.source_meaning.specs.Values.{dims_in, group_in}
use Rattle.source_meaning.specs.Parts.{Node, region_of}
use Rattle.source_meaning.specs.Rows.{literal_bits, at_width, compared_at}
use Rattle.source_meaning.specs.Tasks.{Program, Tests, Returns, Tries, Task, AwaitsAll, Next, Goes, Asks}
use Rattle.source_meaning.specs.Flow.{entered, called, gives}
use Rattle.source_meaning.specs.Steps.{value, number, result_width, written_width, computes, makes, binary, extends_sign, fits_width, selects, asserts, loops, branches, loads, stores, allocates, creates, adds, awaits_one, launches, enters}
use Rattle.source_tasks.specs.declared.rows.Row.{Row}
use Rattle.source_tasks.specs.declared.rows.Row.TheVariants as row
use Rattle.source_tasks.specs.declared.rows.NumberRow.{NumberRow}
use Rattle.source_tasks.specs.declared.rows.NumberRow.TheVariants as num
use Rattle.source_tasks.specs.declared.rows.FlowRow.{FlowRow}
use Rattle.source_tasks.specs.declared.rows.FlowRow.TheVariants as flow
use Rattle.source_tasks.specs.declared.rows.AskRow.{AskRow}
use Rattle.source_tasks.specs.declared.rows.AskRow.TheVariants as asks

-- what sees the task's values alone
abbrev pub number_does : NumberRow → Node → List Val → Task → Next
number_does (num.Binary b) o vs t = binary b o vs t
number_does num.Constant o vs t = makes o t (at_width (result_width o) (literal_bits o.attr))
number_does num.Compare o vs t = makes o t (compared_at (written_width o) o.attr (number vs 0) (number vs 1))
number_does num.Select o vs t = selects o vs t
number_does num.ExtendSign o vs t = extends_sign o vs t
number_does num.FitWidth o vs t = fits_width o vs t
number_does num.Dimension o vs t = computes o t (slice_get (dims_in (value vs 0)) (number vs 1))
number_does num.Assert o vs t = asserts o vs t

-- what enters a region or a function
abbrev pub flow_does : FlowRow → Program → Node → List Val → Task → Next
flow_does flow.Call p o vs t = Goes (called p (Returns t.scope o.results) (callee_place p.funcs o.attr) vs t)
flow_does flow.TryCall p o vs t = Goes (called p (Tries t.scope o.results) (callee_place p.funcs o.attr) vs t)
flow_does flow.For p o vs t = loops o vs t
flow_does flow.If p o vs t = branches o vs t
flow_does flow.While p o vs t = Goes (entered (Tests o) (region_of o 0) vs t)

-- what asks the shared state
abbrev pub ask_does : AskRow → Program → Node → List Val → Task → Next
ask_does asks.Load p o vs t = loads o vs t
ask_does asks.Store p o vs t = stores o vs t
ask_does asks.Alloc p o vs t = allocates o vs t
ask_does asks.Create p o vs t = creates o vs t
ask_does asks.Add p o vs t = adds p o vs t
ask_does asks.Await p o vs t = awaits_one o vs t
ask_does asks.AwaitAll p o vs t = Asks o.at (AwaitsAll (group_in (value vs 0))) [] t
ask_does asks.Execute p o vs t = launches o vs t
ask_does asks.Parallel p o vs t = enters p o vs t

-- what an operation of the class does
abbrev pub row_does : Row → Program → Node → List Val → Task → Next
row_does (row.Number r) p o vs t = number_does r o vs t
row_does (row.Flow r) p o vs t = flow_does r p o vs t
row_does (row.Ask r) p o vs t = ask_does r p o vs t
row_does row.End p o vs t = gives vs t
row_does row.Skip p o vs t = Goes t
