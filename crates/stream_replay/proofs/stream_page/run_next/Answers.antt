use Rattle.std.proofs.Common.{◌≡◌, ◌<◌, length, false}
use Rattle.std.specs.Prelude.{Some, slice_get}
use Rattle.script_syntax.specs.Seen.{item_of}
use Rattle.stream_replay.proofs.Turning.{item_there, begins_inside, ended_lines, ended_standing, limit_lines, limit_standing, goes_on, begun_too}
use Rattle.stream_replay.proofs.stream_page.run_next.Goals as goal

pub returns-in-Ok-clause-lines : goal.returns-in-Ok-clause-lines
returns-in-Ok-clause-lines g c =
    let inside : c.args.running.now.next < length c.items.result.now =
    begins_inside c.args.line c.items.result.now c.args.running.now.script.items c.args.running.now.next c.items.ensures.value (begun_too _ _ c.requires.begins) in
    let at : slice_get c.args.running.now.script.items c.args.running.now.next ≡ Some (item_of c.index-items-running.result) =
    item_there c.items.result.now c.args.running.now.script.items c.args.running.now.next c.index-items-running.result _ c.items.ensures.value inside c.index-items-running.is in
    let going : c.args.running.now.is_stopped ≡ false = goes_on c.args.running.now.is_stopped _ c.requires.begins in
    rw going
    (ended_lines c.args.line c.args.running.now.script.items c.args.running.now.next c.args.running.now.page.world _ (begun_too _ _ c.requires.begins) at c.args.gathered.now.taken c.run_item.new.sink.taken _ _
    c.requires.empty c.in-Ok.ensures.says.ended)

pub returns-in-Ok-clause-standing : goal.returns-in-Ok-clause-standing
returns-in-Ok-clause-standing g c =
    let inside : c.args.running.now.next < length c.items.result.now =
    begins_inside c.args.line c.items.result.now c.args.running.now.script.items c.args.running.now.next c.items.ensures.value (begun_too _ _ c.requires.begins) in
    let at : slice_get c.args.running.now.script.items c.args.running.now.next ≡ Some (item_of c.index-items-running.result) =
    item_there c.items.result.now c.args.running.now.script.items c.args.running.now.next c.index-items-running.result _ c.items.ensures.value inside c.index-items-running.is in
    let going : c.args.running.now.is_stopped ≡ false = goes_on c.args.running.now.is_stopped _ c.requires.begins in
    rw going
    (ended_standing c.args.line c.args.running.now.script.items c.args.running.now.next c.args.running.now.page.world _ (begun_too _ _ c.requires.begins) at c.in-Ok.ensures.says.ended)

pub returns-in-Ok-write_limit-clause-lines : goal.returns-in-Ok-write_limit-clause-lines
returns-in-Ok-write_limit-clause-lines g c =
    let inside : c.args.running.now.next < length c.items.result.now =
    begins_inside c.args.line c.items.result.now c.args.running.now.script.items c.args.running.now.next c.items.ensures.value (begun_too _ _ c.requires.begins) in
    let at : slice_get c.args.running.now.script.items c.args.running.now.next ≡ Some (item_of c.index-items-running.result) =
    item_there c.items.result.now c.args.running.now.script.items c.args.running.now.next c.index-items-running.result _ c.items.ensures.value inside c.index-items-running.is in
    let cut = rw c.in-Err-Limit.field-0-is at c.in-Err-Limit.ensures in
    let going : c.args.running.now.is_stopped ≡ false = goes_on c.args.running.now.is_stopped _ c.requires.begins in
    rw going
    (limit_lines c.args.line c.args.running.now.script.items c.args.running.now.next c.args.running.now.page.world _ (begun_too _ _ c.requires.begins) at c.in-Err-Limit.kind c.in-Err-Limit.line c.in-Err-Limit.number
    c.args.gathered.now.taken c.run_item.new.sink.taken c.write_limit.new.sink.taken _ _ c.requires.empty cut.says.cut_off c.in-Ok-write_limit.ensures.told.0)

pub returns-in-Ok-write_limit-clause-standing : goal.returns-in-Ok-write_limit-clause-standing
returns-in-Ok-write_limit-clause-standing g c =
    let inside : c.args.running.now.next < length c.items.result.now =
    begins_inside c.args.line c.items.result.now c.args.running.now.script.items c.args.running.now.next c.items.ensures.value (begun_too _ _ c.requires.begins) in
    let at : slice_get c.args.running.now.script.items c.args.running.now.next ≡ Some (item_of c.index-items-running.result) =
    item_there c.items.result.now c.args.running.now.script.items c.args.running.now.next c.index-items-running.result _ c.items.ensures.value inside c.index-items-running.is in
    let cut = rw c.in-Err-Limit.field-0-is at c.in-Err-Limit.ensures in
    let going : c.args.running.now.is_stopped ≡ false = goes_on c.args.running.now.is_stopped _ c.requires.begins in
    rw going
    (limit_standing c.args.line c.args.running.now.script.items c.args.running.now.next c.args.running.now.page.world _ (begun_too _ _ c.requires.begins) at cut.says.cut_off)
