-- What is asked of an element's size, for whatever entry has its target.
use Rattle.std.proofs.Common.{◌≡◌, ℕ, Bool, Option, Some, None, refl, ap, sym, ◌∙◌}
use Rattle.std.specs.Prelude.{List, nat_lt}
use Rattle.element_tree.specs.declared.node.NodeId.{NodeId}
use Rattle.px_units.specs.declared.BoxKind.TheVariants.{Border}
use Rattle.script_model.specs.Syntax.{Operand, Named, Target, Wider, Taller}
use Rattle.page_model.specs.Commands.{asked}
use Rattle.page_model.specs.Operands.{element_meant}
use Rattle.page_model.specs.PageBoxes.{size_of}
use Rattle.page_model.specs.Steps.{Step, Did, ◌>>=◌}
use Rattle.page_model.specs.World.{Name, World}
use Rattle.page_names.specs.Things.{present_of}
use Rattle.page_state.specs.Things.{present_with}

pub meant_same : (names : List Name) (subject : Option NodeId) (seen : Option Bool) (operand : Operand) → element_meant names (present_with subject seen) operand ≡ element_meant names (present_of subject) operand
meant_same names subject seen (Named name) = refl
meant_same names None seen Target = refl
meant_same names (Some node) None Target = refl
meant_same names (Some node) (Some meets) Target = refl

module _ (world : World) (subject : Option NodeId) (seen : Option Bool) (operand : Operand) (n units have : ℕ) (found : element_meant world.names (present_of subject) operand ≡ Did n) where
  meant : element_meant world.names (present_with subject seen) operand ≡ Did n
  meant = meant_same world.names subject seen operand ∙ found

  pub wider_is : have ≡ (size_of world.tree world.viewports.screen n Border).across → asked world (present_with subject seen) (Wider operand units) ≡ Did (nat_lt units have)
  unfolding asked ◌>>=◌
  wider_is is =
      ap (λ (step : Step ℕ). step >>= λ m. Did (nat_lt units (size_of world.tree world.viewports.screen m Border).across)) meant
      ∙ ap (λ across. Did (nat_lt units across)) (sym is)

  pub taller_is : have ≡ (size_of world.tree world.viewports.screen n Border).down → asked world (present_with subject seen) (Taller operand units) ≡ Did (nat_lt units have)
  unfolding asked ◌>>=◌
  taller_is is =
      ap (λ (step : Step ℕ). step >>= λ m. Did (nat_lt units (size_of world.tree world.viewports.screen m Border).down)) meant
      ∙ ap (λ down. Did (nat_lt units down)) (sym is)
