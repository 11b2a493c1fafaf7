-- The checks carry, and what the pass makes is stuck before no operation.
use Rattle.std.specs.Prelude.{cond}
use Rattle.std.proofs.Common.{◌≡◌, true, false, List, [], ◌∷◌, map, Option, Some, None, refl, sym, ap, subst, ◌∙◌}
use Rattle.op_table.specs.declared.form.Form.{Form}
use Rattle.op_table.specs.declared.form.Form.TheVariants.{Execute, Await, AddToGroup}
use Rattle.ir_forms.specs.declared.names.TraceEntry.{TraceEntry}
use Rattle.ir_forms.specs.declared.ops.Module.{Module}
use Rattle.ir_forms.specs.declared.ops.Op.{Op, out-Op}
use Rattle.ir_forms.specs.Names.{Path}
use Rattle.ir_verify.specs.Calls.{AreMarks}
use Rattle.ir_verify.specs.Forms.{form}
use Rattle.check_insert.specs.Shape as shape
use Rattle.sound_laws.proofs.Uses.{sound_uses_own}
use Rattle.number_laws.specs.Laws.{places_of, IsRenaming}
use Rattle.number_laws.proofs.Renaming.{numbering_is_a_renaming}
use Rattle.source_meaning.specs.declared.values.Val.{Val}
use Rattle.source_meaning.specs.Values.{Env, maybe, values_at}
use Rattle.source_meaning.specs.Parts.{Node, uses_of}
use Rattle.source_meaning.specs.Steps.{group}
use Rattle.source_meaning.specs.Tasks.{Program, Pending, Awaits, Joining, Failing}
use Rattle.source_meaning.specs.Sequential.{IsProgram}
use Rattle.source_meaning.specs.TaskOrder.{Live, Order, Each, task_at, IsReached}
use Rattle.source_meaning.specs.World.{all_of}
use Rattle.carry_laws.specs.Agreement.{IsTaskOf}
use Rattle.carry_laws.proofs.Basics.{found_path}
use Rattle.typed_laws.specs.Typed.{IsElement, AreElements}
use Rattle.check_laws.specs.Silent.{SafeAt}
use Rattle.check_laws.specs.Laws.{ElementsAt}
use Rattle.check_laws.proofs.Pass.{sound_reads_below, ranks_make_fit, checked_sound}
use Rattle.check_laws.proofs.Kept.{types_make_ranks}
use Rattle.check_laws.proofs.Whole.{checks_call_nothing, checks_agree}
use Rattle.check_laws.proofs.Numbered.{pass_has_results}
use Rattle.check_laws.proofs.Elements.{pass_has_elements}
use Rattle.machines.specs.Machine as machine
use Rattle.machines.proofs.Composes.{carries_on}
use Rattle.machines.proofs.Strict.{strict_carries}
use Rattle.source_machine.specs.Source.{source}
use Rattle.source_machine.proofs.Runs.{reaches_the_same}
use Rattle.agreeing_machines.proofs.Agreeing.{carry_each_other, renamed_carry}
use Rattle.checked_machines.specs.Strict.{is_element, has_elements, can_begin, can_step, strict_source}
use Rattle.checked_machines.specs.Laws.{PassCarries, StrictlyCarries, CheckedCarries}

pub pass_carries : PassCarries
pass_carries program p r entry args h ip ir a =
    let m : Module = shape.checked program in
    let reads = sound_reads_below program.funcs h.sound in
    let q : Program = record { funcs = m.funcs; called = p.called; uses = map uses_of m.funcs } in
    let iq : IsProgram m q = record { funcs = refl; called = subst (λ g. AreMarks g p.called) (sym (checks_call_nothing program reads h.types)) ip.called; uses = refl } in
    let named : IsRenaming m = numbering_is_a_renaming m (sound_uses_own m (checked_sound program h.sound)) in
    let fit = ranks_make_fit p entry args a.range (types_make_ranks program p entry args h ip a) in
    let checks = carry_each_other _ _ p q entry args (checks_agree program p q entry args reads h.types ip iq fit) in
    let numbers = renamed_carry (places_of m) q r entry args named.injective (named.renamed q r iq ir) in (
      carries_on (source r entry args) (source q entry args) (source p entry args) numbers.0 checks.0,
      carries_on (source p entry args) (source q entry args) (source r entry args) checks.1 numbers.1,
    )

-- ---- operations that have what they need

all_elements : (vs : List Val) → Each IsElement vs → all_of is_element vs ≡ true
all_elements [] h = refl
all_elements (v ∷ vs) h = ap (λ b. cond b (all_of is_element vs) false) h.0 ∙ all_elements vs h.1

elements_so : (f : Form) (o : Node) (vs : List Val) → AreElements f o vs → has_elements f o vs ≡ true
elements_so Execute o vs h = ap (λ b. cond b (all_of is_element (group o vs 1)) false) (all_elements (group o vs 0) h.0) ∙ all_elements (group o vs 1) h.1
elements_so Await o vs h = h
elements_so AddToGroup o vs h = h
elements_so f o vs h = refl

begins_so : (ps : List Pending) (ops : List Op) (env : Env) → SafeAt ps ops env → ElementsAt ps ops env → can_begin ps ops env ≡ true
begins_so [] [] env s e = refl
begins_so [] (o ∷ rest) env s e =
    ap (λ b. cond b (has_elements (form o) (out-Op o) (values_at env (out-Op o).operands)) false) s ∙ elements_so (form o) (out-Op o) (values_at env (out-Op o).operands) e
begins_so (Awaits n x xs ∷ ps) ops env s e = refl
begins_so (Joining n l ∷ ps) ops env s e = refl
begins_so (Failing n ∷ ps) ops env s e = refl

pub strictly_carries : StrictlyCarries
strictly_carries program q entry args h iq a = strict_carries (source q entry args) (λ s r. maybe true (λ l. can_step l.task) (task_at s r)) always where
  task_so : (s : Order) → IsReached q entry args s → (r : Path) (o : Option Live) → task_at s r ≡ o → maybe true (λ l. can_step l.task) o ≡ true
  task_so s reached r None e = refl
  task_so s reached r (Some l) e =
      let at : l.path ≡ r = found_path r s.live l e in
      let is : IsTaskOf q entry args l.task = record { at = s; reached = reached; live = l; found = subst (λ z. task_at s z ≡ Some l) (sym at) e; task = refl } in
      begins_so l.task.pending l.task.rest l.task.scope.env (pass_has_results program q entry args h iq a l.task is) (pass_has_elements program q entry args h iq a l.task is)

  always : (shown : List TraceEntry) (s : Order) → machine.IsReached (source q entry args) shown s → (r : Path) → maybe true (λ l. can_step l.task) (task_at s r) ≡ true
  always shown s reached r = task_so s ((reaches_the_same q entry args s).0 shown reached).0 r (task_at s r) refl

pub checked_carries : CheckedCarries
checked_carries program p q entry args h ip iq a =
    carries_on (strict_source q entry args) (source q entry args) (source p entry args) (strictly_carries program q entry args h iq a) (pass_carries program p q entry args h ip iq a).0
