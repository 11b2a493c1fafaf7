use Rattle.std.proofs.Common.{◌∙◌}
use Rattle.ir_forms.specs.Names.{maker}
use Rattle.source_meaning.specs.World.{outcome, all_of, is_good}
use Rattle.source_state.proofs.Changes.{group_found}
use Rattle.source_state.proofs.shared.Shared.all_good.Goals as goal

pub returns-in-Some : goal.returns-in-Some
returns-in-Some c =
    let found = group_found c.self.inside.buffers.entries c.self.inside.used c.self.inside.groups.entries _ c.args.self.now c.in_ok-name.name c.args.group.now _ c.self.view_is c.in_ok-name.ensures c.in-Some.ensures.value in
    c.all_good.ensures ∙ (λ i. all_of (λ x. is_good (outcome (c.self.view_is i) (maker x))) ((c.as_slice.ensures ∙ found.0) i))

pub returns : goal.returns
returns c =
    let found = group_found c.self.inside.buffers.entries c.self.inside.used c.self.inside.groups.entries _ c.args.self.now c.in_ok-name.name c.args.group.now _ c.self.view_is c.in_ok-name.ensures c.in-None.ensures.value in
    (λ i. all_of (λ x. is_good (outcome c.args.self.now (maker x))) (found.0 i))
