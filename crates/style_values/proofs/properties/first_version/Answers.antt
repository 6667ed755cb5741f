use Rattle.std.proofs.Common.{◌≡◌, ◌∙◌, Bool, true, false, Option}
use Rattle.std.specs.Prelude.{option_map, is_some}
use Rattle.script_model.specs.Keywords.{lookup}
use Rattle.script_model.specs.Properties.{ValueReader, properties, positioned_properties}
use Rattle.style_values.specs.Properties.{reader_of}
use Rattle.style_values.specs.declared.properties.Property.{Property}
use Rattle.style_values.proofs.Named.{seen_some, reads_first, reads_second, reads_none}
use Rattle.style_values.proofs.properties.first_version.Goals as goal

here : (found : Option Property) (seen : Option ValueReader) (test value : Bool) → option_map reader_of found ≡ seen → test ≡ is_some found → test ≡ value → is_some seen ≡ value
here found seen test value is tested so = seen_some reader_of found seen is ∙ cc

pub returns-then-is_some : goal.returns-then-is_some
returns-then-is_some c = reads_first c.args.name.now (here c.unpositioned.result (lookup properties c.args.name.now) c.is_some.result true c.unpositioned.ensures c.is_some.ensures c.if-is_some.true)

pub returns-then-is_some-2 : goal.returns-then-is_some-2
returns-then-is_some-2 c =
    reads_second c.args.name.now (here c.unpositioned.result (lookup properties c.args.name.now) c.is_some.result false c.unpositioned.ensures c.is_some.ensures c.if-is_some.false)
    (here c.positioned.result (lookup positioned_properties c.args.name.now) c.is_some-2.result true c.positioned.ensures c.is_some-2.ensures c.if-is_some-2.true)

pub returns : goal.returns
returns c =
    reads_none c.args.name.now (here c.unpositioned.result (lookup properties c.args.name.now) c.is_some.result false c.unpositioned.ensures c.is_some.ensures c.if-is_some.false)
    (here c.positioned.result (lookup positioned_properties c.args.name.now) c.is_some-2.result false c.positioned.ensures c.is_some-2.ensures c.if-is_some-2.false)
