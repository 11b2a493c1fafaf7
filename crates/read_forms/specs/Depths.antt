-- How deep a module that is read is, against how deep the reader saw.
use Rattle.std.specs.Prelude.{◌≤◌, ◌<◌, ◌^◌, List}
use Rattle.op_table.specs.declared.rows.Level.{Level}
use Rattle.module_grammar.specs.declared.state.TextToken.{TextToken}
use Rattle.module_grammar.specs.declared.state.State.{State}
use Rattle.module_grammar.specs.Engine.{Leads}
use Rattle.module_grammar.specs.State.{at_start, module_of}
use Rattle.module_grammar.specs.Rules.{grammar}
use Rattle.module_grammar.specs.Texts.{whole}
use Rattle.mlir_print.specs.Depth.{depth_of}

-- the regions of a text's module stand no deeper in one another than was seen, where that is less than where the count of depth ends
abbrev pub ReadsDepth : Type 0
ReadsDepth = (level : Level) (ts : List TextToken) (s : State)
    → Leads (grammar level) whole at_start ts s → s.deepest < 2 ^ 32 → depth_of (module_of s) ≤ s.deepest

-- a reader sees no deeper than the text's module is
abbrev pub SeesNoDeeper : Type 0
SeesNoDeeper = (level : Level) (ts : List TextToken) (s : State)
    → Leads (grammar level) whole at_start ts s → s.deepest ≤ depth_of (module_of s)
