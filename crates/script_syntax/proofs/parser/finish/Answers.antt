use Rattle.std.proofs.Common.{ap, ◌∙◌, sym, Ok, List, reverse, map, Vec, Global}
use Rattle.script_syntax.specs.Seen.{item_of}
use Rattle.script_syntax.specs.declared.commands.Item.{Item as CodeItem}
use Rattle.std.proofs.lemmas.List.{reverse-reverse}
use Rattle.script_model.specs.Syntax.{Item, Script}
use Rattle.text_io.specs.declared.kinds.Version.{Version}
use Rattle.script_syntax.proofs.Finishes.{finished_whole, finished_open, finished_fault}
use Rattle.script_syntax.proofs.parser.finish.Goals as goal

-- the version and the items, as they are seen
abbrev seen : Version × Vec CodeItem Global → Script
seen read = record { version = read.0; items = map item_of read.1.items }

pub returns-then-not-is_outside-clause-value : goal.returns-then-not-is_outside-clause-value
returns-then-not-is_outside-clause-value c = finished_open seen _ _ _ _ _ (cc) c.refusal.ensures

pub returns-then-is_some-clause-value : goal.returns-then-is_some-clause-value
returns-then-is_some-clause-value c = finished_fault seen _ _ _ _ _ _ (cc) c.refusal-then-is_some.ensures

pub returns-clause-value : goal.returns-clause-value
returns-clause-value c =
    finished_whole _ _ _ _ _ (cc) (cc)
    ∙ ap (λ (items : List Item). Ok (record { version = c.args.builder.version; items = reverse items })) (sym c.into_items.ensures.value)
    ∙ ap (λ (items : List Item). Ok (record { version = c.args.builder.version; items = items })) (reverse-reverse _)
    ∙ ap (λ (version : Version). Ok (record { version = version; items = map item_of c.into_items.result.items })) (sym c.version-version.ensures)
