-- No element is taken out by a block, so entries stay of elements that there are.
use Rattle.std.proofs.Common.{◌≡◌, ℕ, suc, ◌≤◌, Bool, true, false, List, [], ◌∷◌, length, ap, sym, subst, arith}
use Rattle.script_model.specs.Syntax.{Command, Block, NoMore, Then}
use Rattle.page_model.specs.Callbacks.{Script, run_command, run_block}
use Rattle.page_model.specs.Operands.{Present, NoEntry, ResizeEntry, IntersectionEntry}
use Rattle.page_model.specs.Ranges.{IsPresentIn}
use Rattle.page_model.specs.Runs.{Said, Flow, Next, Thrown, Limited, ◌followed_by◌, follow}
use Rattle.page_model.specs.World.{World, Tree}
use Rattle.page_model.specs.Commands.{begun_in}
use Rattle.page_model.specs.Steps.{Did, ◌>>◌, met_unless}
use Rattle.text_io.specs.Limits.{limit_number}
use Rattle.text_io.specs.declared.kinds.LimitKind.TheVariants as limits
use Rattle.std.specs.Prelude.{nat_lt}
use Rattle.page_laws.specs.Later.{IsLater}
use Rattle.handlers.specs.Entries.{AreIn}

abbrev elements : World → ℕ
elements world = length (world.tree.elements)

-- entries stay in range where no element is taken out
is_in_later : (old new : World) (entry : Present) → length (old.tree.elements) ≤ length (new.tree.elements) → IsPresentIn old entry → IsPresentIn new entry
is_in_later old new NoEntry later within = tt
is_in_later old new (ResizeEntry target) later within = omega (arith, later, within)
is_in_later old new (IntersectionEntry target meets) later within = omega (arith, later, within)

pub are_in_later : (old new : World) (entries : List Present) → length (old.tree.elements) ≤ length (new.tree.elements) → AreIn old entries → AreIn new entries
are_in_later old new [] later all = tt
are_in_later old new (entry ∷ entries) later all = (is_in_later old new entry later all.0, are_in_later old new entries later all.1)

follow_grows : (flow : Flow) (rest : World → Said World) (said : Said World) (least : ℕ) → least ≤ length (said.state.tree.elements)
    → ((world : World) → length (world.tree.elements) ≤ length ((rest world).state.tree.elements)) → least ≤ length ((follow flow rest said).state.tree.elements)
unfolding follow
follow_grows Next rest said least here later = let more = later (said.state) in omega (arith, here, more)
follow_grows Thrown rest said least here later = here
follow_grows Limited rest said least here later = here

-- a law of commands
abbrev pub CommandsLater : Type 0
CommandsLater = (script : Script) (entries : List Present) (command : Command) (present : Present) (world : World) → IsLater world (run_command script entries command present world).state

module _ (law : CommandsLater) (script : Script) (entries : List Present) where
  pub block_grows : (block : Block) (present : Present) (world : World) → length (world.tree.elements) ≤ length ((run_block script entries block present world).state.tree.elements)
  unfolding run_block ◌followed_by◌
  block_grows NoMore present world = omega arith
  block_grows (Then command others) present world =
      follow_grows ((run_command script entries command present world).flow) (run_block script entries others present) (run_command script entries command present world) (length (world.tree.elements))
      (law script entries command present world).elements (block_grows others present)

  -- entries behind a command and behind a block that was run to its end
  pub in_after_command : (command : Command) (present : Present) (old new : World) → (run_command script entries command present old).state ≡ new → AreIn old entries → AreIn new entries
  in_after_command command present old new is all =
      are_in_later old new entries (subst (λ (world : World). length (old.tree.elements) ≤ length (world.tree.elements)) is (law script entries command present old).elements) all

  pub in_after_block : (block : Block) (present : Present) (old new : World) → (run_block script entries block present old).state ≡ new → AreIn old entries → AreIn new entries
  in_after_block block present old new is all =
      are_in_later old new entries (subst (λ (world : World). length (old.tree.elements) ≤ length (world.tree.elements)) is (block_grows block present old)) all

-- a command that was begun is counted, and no element is changed
counted-same : (room_left : Bool) (old new : World) → met_unless room_left limits.Commands >> Did (record old { begun = suc old.begun }) ≡ Did new → new.tree ≡ old.tree
unfolding ◌>>◌
counted-same true old new is = let same : record old { begun = suc old.begun } ≡ new = cc in ap (λ (world : World). world.tree) (sym same)
counted-same false old new is = cc

begun-same : (old new : World) → begun_in old ≡ Did new → new.tree ≡ old.tree
unfolding begun_in
begun-same old new is = counted-same (nat_lt old.begun (limit_number (old.version) limits.Commands)) old new is

pub in_after_begun : (old new : World) (entries : List Present) → begun_in old ≡ Did new → AreIn old entries → AreIn new entries
in_after_begun old new entries is all =
    are_in_later old new entries (let same : elements new ≡ elements old = ap (λ (tree : Tree). length (tree.elements)) (begun-same old new is) in omega arith) all
