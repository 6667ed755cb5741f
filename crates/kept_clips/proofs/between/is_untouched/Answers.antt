use Rattle.std.proofs.Common.{◌≡◌, ◌≤◌, ◌<◌, ◌∙◌, ◌∷◌, Some, true, false, nat_le, inl, inr, sym, ap}
use Rattle.std.specs.List.{list_all}
use Rattle.clip_chain.proofs.Leading.{above_outwards, none_above}
use Rattle.kept_clips.specs.Chains.{is_untouched}
use Rattle.kept_clips.proofs.Coming.{comes_first, comes_next, comes_last}
use Rattle.kept_clips.proofs.Testing.{at_most, above, in_whole, fails_between, passes, stops}
use Rattle.kept_clips.proofs.between.is_untouched.Goals as goal

pub loop-next-init : goal.loop-next-init
loop-next-init g c = record {
  above = c.requires;
  so_far = comes_first (g.G.Geometry.scene c.args.geometry.now) c.args.root c.args.of (list_all (is_untouched c.args.touches.now c.args.since));
}

pub returns-then-last-since-3 : goal.returns-then-last-since-3
returns-then-last-since-3 g c =
    let scene = g.G.Geometry.scene c.args.geometry.now in
    let test = is_untouched c.args.touches.now c.args.since in
    let e : (scene.container c.loop-next.spot ≡ Some c.in-Some.next) × (¬ c.in-Some.next ≡ c.args.root) = c.in-Some.ensures.next in
    let rest = above_outwards scene c.args.root c.loop-next.spot c.in-Some.next e.0 e.1 c.loop-next.invariant.above in
    let late : c.args.since < c.last-in-Some.result = c.if-last-since-3.true in
    let touched : test c.in-Some.next ≡ false = ap (λ n. nat_le n c.args.since) (sym c.last-in-Some.ensures) ∙ above c.last-in-Some.result c.args.since late in
    λ between h.
    sym (fails_between test c.args.of c.args.root between
    (c.loop-next.invariant.so_far between (c.in-Some.next ∷ rest.0) h (e.0, e.1, rest.1) ∙ stops test c.in-Some.next rest.0 touched))

pub loop-next-preserved : goal.loop-next-preserved
loop-next-preserved g c =
    let scene = g.G.Geometry.scene c.args.geometry.now in
    let test = is_untouched c.args.touches.now c.args.since in
    let e : (scene.container c.loop-next.spot ≡ Some c.in-Some.next) × (¬ c.in-Some.next ≡ c.args.root) = c.in-Some.ensures.next in
    let early : c.last-in-Some.result ≤ c.args.since = c.if-last-since-3.false in
    let untouched : test c.in-Some.next ≡ true = ap (λ n. nat_le n c.args.since) (sym c.last-in-Some.ensures) ∙ at_most c.last-in-Some.result c.args.since early in
    record {
      above = above_outwards scene c.args.root c.loop-next.spot c.in-Some.next e.0 e.1 c.loop-next.invariant.above;
      so_far = comes_next scene c.args.root c.args.of (list_all test) c.loop-next.spot c.in-Some.next (list_all test) (list_all test) c.loop-next.invariant.so_far e.0 e.1 (λ rest. passes test c.in-Some.next rest untouched);
    }

pub returns : goal.returns
returns g c =
    let scene = g.G.Geometry.scene c.args.geometry.now in
    let test = is_untouched c.args.touches.now c.args.since in
    let at_root : scene.container c.loop-next.spot ≡ Some c.args.root = (elim (c.container_below.ensures.none c.in_default.is) [
      | inl e ↦ absurd (none_above scene c.args.root c.loop-next.spot e c.loop-next.invariant.above)
      | inr e ↦ e
    ]) in
    let first : c.last.result ≤ c.args.since = c.if-last-since.false in
    let last : c.last-else-last-since.result ≤ c.args.since = c.if-last-since-2.false in
    let of_untouched : test c.args.of ≡ true = ap (λ n. nat_le n c.args.since) (sym c.last.ensures) ∙ at_most c.last.result c.args.since first in
    let root_untouched : test c.args.root ≡ true = ap (λ n. nat_le n c.args.since) (sym c.last-else-last-since.ensures) ∙ at_most c.last-else-last-since.result c.args.since last in
    λ between h.
    sym (in_whole test c.args.of c.args.root between of_untouched
    (comes_last scene c.args.root c.args.of (list_all test) c.loop-next.spot (list_all test) c.loop-next.invariant.so_far at_root between h) root_untouched)
