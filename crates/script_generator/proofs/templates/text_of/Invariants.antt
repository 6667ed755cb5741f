use Rattle.std.proofs.Common.{◌≡◌, ◌-◌, ◌++◌}
use Rattle.script_model.specs.Generator.{generated}
use Rattle.script_generator.proofs.Fillings.{cards_left}
use Rattle.script_generator.proofs.templates.text_of.Given as goal

-- what was written, the cards from here on and the tail make the text
abbrev pub invariant-loop-card : goal.invariant-loop-card
invariant-loop-card l = l.text.items ++ cards_left l.card (l.cards - l.card) ≡ generated l.number
