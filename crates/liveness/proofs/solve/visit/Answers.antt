use Rattle.std.proofs.Common.{◌≡◌, List, Bool, ℕ, false, length, replicate, get_or, Some, sym, ap, ◌∙◌, arith, rules}
use Rattle.std.specs.Prelude.{slice_get}
use Rattle.std.proofs.lemmas.List.{length-replicate}
use Rattle.low_flow.specs.Lists.{list_at}
use Rattle.low_forms.specs.declared.code.Block.{Block}
use Rattle.low_forms.specs.Edges.{edges}
use Rattle.liveness.specs.Flow.{set_at, joined, back_through}
use Rattle.liveness.proofs.FlowLemmas.{length_through, length_joined}
use Rattle.liveness.proofs.StateLemmas.{get_of, visits_of}
use Rattle.liveness.proofs.solve.visit.Goals as goal

behind_is : (sets read : List (List Bool)) (targets es : List (List ℕ)) (cs : List ℕ) (block regs registers : ℕ) (set : List Bool)
    → set ≡ joined read cs (replicate registers false) → read ≡ sets → cs ≡ list_at targets block → targets ≡ es → registers ≡ regs → set ≡ joined sets (list_at es block) (replicate regs false)
behind_is sets read targets es cs block regs registers set is read_is cs_is es_is regs_is =
    is ∙ ap (λ (ss : List (List Bool)). joined ss cs (replicate registers false)) read_is
    ∙ ap (λ (xs : List ℕ). joined sets xs (replicate registers false)) (cs_is ∙ ap (λ (ls : List (List ℕ)). list_at ls block) es_is)
    ∙ ap (λ n. joined sets (list_at es block) (replicate n false)) regs_is

long_by : (sets : List (List Bool)) (cs : List ℕ) (regs : ℕ) (b : Block) (old set new : List Bool) → length old ≡ regs → set ≡ joined sets cs (replicate regs false) → new ≡ back_through b set → length old ≡ length new
long_by sets cs regs b old set new old_long is new_is =
    old_long ∙ sym (ap (λ (t : List Bool). length t) new_is ∙ length_through b set ∙ ap (λ (t : List Bool). length t) is ∙ length_joined sets cs (replicate regs false) ∙ length-replicate regs false)

pub unite_at-requires-clause-long : goal.unite_at-requires-clause-long
unite_at-requires-clause-long c =
    let got : c.in_ok-set.set ≡ joined c.deref.result.now c.list_at.result.now (replicate c.len.result false) = search rules in
    let is : c.in_ok-set.set ≡ joined c.args.sets.now.items (list_at (edges c.args.func.now) c.args.block) (replicate (length c.args.func.now.regs) false) =
    behind_is c.args.sets.now.items c.deref.result.now c.args.targets.now (edges c.args.func.now) c.list_at.result.now c.args.block (length c.args.func.now.regs) c.len.result c.in_ok-set.set
    got c.deref.ensures.value c.list_at.ensures c.requires.targets c.len.ensures in
    long_by c.args.sets.now.items (list_at (edges c.args.func.now) c.args.block) (length c.args.func.now.regs) c.index-blocks-block.result (set_at c.args.sets.now.items c.args.block) c.in_ok-set.set c.back_through.new.set
    (c.requires.sets.each c.args.block (omega (arith, c.requires.within, c.requires.sets.long))) is c.back_through.ensures

pub returns : goal.returns
returns c =
    let got : c.in_ok-set.set ≡ joined c.deref.result.now c.list_at.result.now (replicate c.len.result false) = search rules in
    let is : c.in_ok-set.set ≡ joined c.args.sets.now.items (list_at (edges c.args.func.now) c.args.block) (replicate (length c.args.func.now.regs) false) =
    behind_is c.args.sets.now.items c.deref.result.now c.args.targets.now (edges c.args.func.now) c.list_at.result.now c.args.block (length c.args.func.now.regs) c.len.result c.in_ok-set.set
    got c.deref.ensures.value c.list_at.ensures c.requires.targets c.len.ensures in
    let more : c.back_through.new.set ≡ back_through c.index-blocks-block.result (joined c.args.sets.now.items (list_at (edges c.args.func.now) c.args.block) (replicate (length c.args.func.now.regs) false)) =
    c.back_through.ensures ∙ ap (λ (t : List Bool). back_through c.index-blocks-block.result t) is in
    let at : slice_get c.args.func.now.blocks c.args.block ≡ Some c.index-blocks-block.result =
    get_of c.args.func.now.blocks c.args.block c.index-blocks-block.result c.requires.within
    (c.index-blocks-block.is ∙ ap (λ (bs : List Block). get_or bs c.args.block c.index-blocks-block.result) c.as_slice-blocks.ensures) in
    visits_of c.args.func.now c.args.sets.now.items c.unite_at.new.sets.items c.args.block c.unite_at.result c.index-blocks-block.result c.back_through.new.set c.requires.sets c.requires.within at more c.unite_at.ensures.sets c.unite_at.ensures.changes
