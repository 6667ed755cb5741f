-- What the readings of a page give.
use Rattle.std.proofs.Common.{◌≡◌, refl, true≢false, arith, tests}
use Rattle.std.specs.Prelude.{ℕ, suc, ◌<◌, nat_lt, Bool, true, false, [], ◌∷◌, IsTrue, Option, Some, None, option_map, is_some, unwrap_or}
use Rattle.std.specs.List.{AllByRecursion}
use Rattle.px_units.specs.declared.BoxKind.{BoxKind}
use Rattle.layout_model.specs.Boxes.{Inputs, box_in}
use Rattle.text_io.specs.declared.kinds.LimitKind.TheVariants as limits
use Rattle.text_io.specs.Limits.{limit_number}
use Rattle.script_model.specs.Syntax.{Operand, Read}
use Rattle.page_model.specs.World.{Screen, Tree, World}
use Rattle.page_model.specs.Lookups.{no_extent}
use Rattle.page_model.specs.Documents.{nodes_of, active_documents, is_active, is_active_state, frame_levels}
use Rattle.page_model.specs.PageBoxes.{inputs_of, has_box, box_of, size_of, size_by, extent_of}
use Rattle.page_model.specs.Steps.{Did, ◌>>◌, met_unless}
use Rattle.page_model.specs.Operands.{Handlers, Present}
use Rattle.page_model.specs.Commands.{does, begun_in}
use Rattle.page_laws.specs.Successors.{OnDid}
use Rattle.page_laws.proofs.Steps.{bind}
use Rattle.page_laws.proofs.Successors.{led-pass}

pub reading-same : (handlers : Handlers) (world : World) (present : Present) (operand : Operand) →
    OnDid (does handlers world present (Read operand)) (λ effect. effect.world ≡ world)
unfolding does OnDid
reading-same handlers world present operand = search bind depth 9

counted-if : (world : World) (most : ℕ) (more : Bool) → nat_lt (world.begun) most ≡ more →
    OnDid (met_unless more limits.Commands >> Did (record world { begun = suc world.begun }))
    (λ after. (after ≡ record world { begun = suc world.begun }) × (world.begun < most))
unfolding ◌>>◌ OnDid
counted-if world most true less = (refl, grind (arith, tests))
counted-if world most false less = tt

pub begun-next : (world : World) →
    OnDid (begun_in world) (λ after. (after ≡ record world { begun = suc world.begun }) × (world.begun < limit_number (world.version) limits.Commands))
unfolding begun_in
begun-next world =
    let most : ℕ = limit_number (world.version) limits.Commands in
    counted-if world most (nat_lt (world.begun) most) refl

pub active-listed : (tree : Tree) → AllByRecursion (λ document. IsTrue (is_active tree document)) (active_documents tree)
unfolding active_documents
active-listed tree = led-pass frame_levels is_active_state tree (0 ∷ [])

no-size : (tree : Tree) (ratio n : ℕ) (kind : BoxKind) (inputs : Option Inputs) → is_some inputs ≡ false →
    extent_of (unwrap_or (option_map (size_by ratio kind) (option_map (λ given. box_in (nodes_of tree) given n) inputs)) (0, 0)) ≡ no_extent
no-size tree ratio n kind None none = refl
no-size tree ratio n kind (Some inputs) none = absurd (true≢false none)

pub no-box-no-size : (tree : Tree) (screen : Screen) (n : ℕ) (kind : BoxKind) → has_box tree screen n ≡ false → size_of tree screen n kind ≡ no_extent
unfolding has_box box_of size_of
no-box-no-size tree screen n kind none = no-size tree (screen.ratio) n kind (inputs_of tree screen n) none
