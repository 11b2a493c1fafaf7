use Rattle.std.proofs.Common.{ap, ◌∙◌, length}
use Rattle.source_state.proofs.Changes.{group_found}
use Rattle.source_state.proofs.shared.Shared.fill.Goals as goal

pub returns-in-Some : goal.returns-in-Some
returns-in-Some c =
    let found = group_found c.self.inside.buffers.entries c.self.inside.used c.self.inside.groups.entries _ c.args.self.now c.in_ok-name.name c.args.group.now _ c.self.view_is c.in_ok-name.ensures c.in-Some.ensures.value in
    (c.len.ensures ∙ ap length found.0, found.1)

pub returns : goal.returns
returns c =
    let found = group_found c.self.inside.buffers.entries c.self.inside.used c.self.inside.groups.entries _ c.args.self.now c.in_ok-name.name c.args.group.now _ c.self.view_is c.in_ok-name.ensures c.in-None.ensures.value in
    (ap length found.0, found.1)
