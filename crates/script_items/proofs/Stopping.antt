-- Runs that are broken off as one of their ticks ends.
use Rattle.std.proofs.Common.{◌≡◌, ◌∙◌, ℕ, zero, suc, ◌+◌, ◌-◌, ◌<◌, ◌≤◌, List, [], ◌∷◌, drop, get_or, length, map, refl, ap, sym}
use Rattle.std.proofs.lemmas.List.{drop_more, drop_all}
use Rattle.script_model.specs.Syntax as model
use Rattle.script_syntax.specs.Seen.{item_of}
use Rattle.script_syntax.specs.declared.commands.Item.{Item}
use Rattle.page_model.specs.Runs.{Said, for_each, silent, ◌followed_by◌}
use Rattle.page_model.specs.World.{World}
use Rattle.script_items.specs.Stops.{tick_count, ticks_in, to_tick}

-- item by item --------------------------------------------------------------------------------------------------------------

module _ (step : model.Item → World → Said World) where
  pub none_left : (left : ℕ) (items : List model.Item) (state : World) → left ≡ 0 → for_each step (to_tick left items) state ≡ silent state
  unfolding for_each to_tick
  none_left left items state none = ap (λ n. for_each step (to_tick n items) state) none

  none_here : (left : ℕ) (state : World) → for_each step (to_tick left []) state ≡ silent state
  unfolding for_each to_tick
  none_here zero state = refl
  none_here (suc more) state = refl

  pub no_items : (left : ℕ) (items : List Item) (i : ℕ) (state : World) → length items ≤ i → for_each step (to_tick left (map item_of (drop i items))) state ≡ silent state
  no_items left items i state past = ap (λ rest. for_each step (to_tick left (map item_of rest)) state) (drop_all i items past) ∙ none_here left state

  one_here : (left : ℕ) (item : Item) (others : List Item) (state : World) → (left ≡ 0 → ⊥)
      → for_each step (to_tick left (map item_of (item ∷ others))) state
      ≡ step (item_of item) state followed_by for_each step (to_tick (left - ticks_in (item_of item)) (map item_of others))
  unfolding for_each to_tick
  one_here zero item others state some = absurd (some refl)
  one_here (suc more) item others state some = refl

  pub one_more : (left less : ℕ) (items : List Item) (i : ℕ) (item : Item) (state : World) → i < length items → item ≡ get_or items i item → (left ≡ 0 → ⊥)
      → less ≡ ticks_in (item_of item)
      → for_each step (to_tick left (map item_of (drop i items))) state
      ≡ step (item_of item) state followed_by for_each step (to_tick (left - less) (map item_of (drop (i + 1) items)))
  one_more left less items i item state within is some fewer =
      ap (λ rest. for_each step (to_tick left (map item_of rest)) state) (drop_more items i item within)
      ∙ ap (λ it. for_each step (to_tick left (map item_of (it ∷ drop (i + 1) items))) state) (sym is)
      ∙ one_here left item (drop (i + 1) items) state some
      ∙ ap (λ n. step (item_of item) state followed_by for_each step (to_tick (left - n) (map item_of (drop (i + 1) items)))) (sym fewer)

  pub all_here : (number : ℕ) (items : List Item) (script : List model.Item) (state : World) → map item_of items ≡ script
      → for_each step (to_tick number script) state ≡ for_each step (to_tick number (map item_of items)) state
  all_here number items script state is = ap (λ it. for_each step (to_tick number it) state) (sym is)

pub ticks_more : (items : List Item) (i : ℕ) (item : Item) → i < length items → item ≡ get_or items i item
    → tick_count (map item_of (drop i items)) ≡ ticks_in (item_of item) + tick_count (map item_of (drop (i + 1) items))
unfolding tick_count
ticks_more items i item within is =
    ap (λ rest. tick_count (map item_of rest)) (drop_more items i item within)
    ∙ ap (λ it. ticks_in (item_of it) + tick_count (map item_of (drop (i + 1) items))) (sym is)

pub ticks_none : (items : List Item) (i : ℕ) → length items ≤ i → tick_count (map item_of (drop i items)) ≡ 0
unfolding tick_count
ticks_none items i past = ap (λ rest. tick_count (map item_of rest)) (drop_all i items past)
