-- Scripts come again.
use Rattle.std.proofs.Common.{◌≡◌, ◌∙◌, ap, ℕ, ◌+◌, [], ◌∷◌, ◌++◌, arith}
use Rattle.std.specs.Prelude.{flat_map}
use Rattle.script_model.specs.Generator.{card_count, root_margin, head_lines, cards_from, tail_lines, generated_lines, generated}

same_count : (number : ℕ) → card_count (number + 10000) ≡ card_count number
same_count number = omega arith

same_margin : (number : ℕ) → root_margin (number + 10000) ≡ root_margin number
same_margin number = omega arith

pub come_again : (number : ℕ) → generated (number + 10000) ≡ generated number
unfolding generated generated_lines
come_again number =
    ap (flat_map (λ line. line ++ (10 ∷ [])))
    (ap (λ margin. head_lines margin ++ cards_from 0 (card_count (number + 10000)) ++ tail_lines) (same_margin number)
    ∙ ap (λ count. head_lines (root_margin number) ++ cards_from 0 count ++ tail_lines) (same_count number))
