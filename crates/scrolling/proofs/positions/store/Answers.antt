use Rattle.std.proofs.Common.{◌≡◌, ◌≤◌, ◌+◌, ◌-◌, ◌∙◌, List, [], ◌∷◌, ◌++◌, length, replicate, ap, arith, take_all}
use Rattle.std.specs.Prelude.{map, vec_len}
use Rattle.scrolling.specs.declared.positions.Position.{Position}
use Rattle.scrolling.specs.Positions.{seen_position}
use Rattle.scrolling.proofs.Puts.{put_behind, put_within, map-put}
use Rattle.scrolling.proofs.positions.store.Goals as goal

pub returns-then-place-len : goal.returns-then-place-len
returns-then-place-len c =
    let start : Position = record { across = 0; down = 0 } in
    ap (map seen_position) (put_within start c.args.position c.args.number c.args.held.now.items (omega (arith, c.if-place-len.true, c.len.ensures)))
    ∙ map-put seen_position start c.args.position c.args.number c.args.held.now.items

pub returns : goal.returns
returns c =
    let start : Position = record { across = 0; down = 0 } in
    let items = c.args.held.now.items in
    let rest = c.args.number - vec_len c.args.held.now in
    let low : length items ≤ c.args.number = omega (arith, c.if-place-len.false, c.len.ensures) in
    let count : length items + rest ≡ c.args.number = omega (arith, low, c.len.ensures) in
    ap (map seen_position)
    (c.push_reserved.ensures.items
    ∙ ap (λ (xs : List Position). xs ++ c.args.position ∷ []) (c.in-Ok.ensures.items ∙ ap (λ (xs : List Position). xs ++ replicate rest start) (take_all c.args.number items low))
    ∙ put_behind start c.args.position c.args.number rest items count)
    ∙ map-put seen_position start c.args.position c.args.number items
