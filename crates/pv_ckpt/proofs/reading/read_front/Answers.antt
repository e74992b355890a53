use Rattle.std.proofs.Common.{rules, arith, ◌≡◌, ◌≤◌, ℕ, List, [], min, take, length, ◌∙◌, ap, subst}
use Rattle.pv_law_calls.proofs.GivenLemmas.{gives_more}
use Rattle.pv_law_checkpoints.specs.TwoAreas.{IsNotOurs}
use Rattle.pv_ckpt.specs.Roots.{IsRootOf, IsRootless}
use Rattle.pv_ckpt.proofs.FrontLemmas.{rootless_moved}
use Rattle.pv_ckpt.proofs.reading.read_front.Goals as goal

pub returns-clause-not_ours : goal.returns-clause-not_ours
returns-clause-not_ours g c place known bytes is =
    let front = c.in_ok-front.front.items in
    let size = c.in_ok-size.size in
    let read = c.in_ok-front.ensures.bytes bytes (c.in_ok-size.ensures.effect.1 ∙ is) in
    let count : c.min.result ≡ min size 59 = search rules in
    let same : c.in-Err.place ≡ place = cc in
    let none = subst (λ (l : List ℕ). IsRootless l c.in-Err.place) c.deref.ensures.value c.in-Err.ensures.none in
    subst (IsNotOurs bytes) same (rootless_moved front bytes size (c.in_ok-size.ensures.size bytes is) (read ∙ ap (λ n. take n bytes) count) c.in-Err.place none)

pub returns-clause-gave_none : goal.returns-clause-gave_none
returns-clause-gave_none g c place known =
    let front = c.in_ok-front.front.items in
    let same : c.in-Err.place ≡ place = cc in
    let count : c.min.result ≡ min c.in_ok-size.size 59 = search rules in
    let few : length front ≤ 59 = search rules in
    let none = subst (λ (l : List ℕ). IsRootless l c.in-Err.place) c.deref.ensures.value c.in-Err.ensures.none in (
      front,
      gives_more g.D.Disk.model c.args.disk.now c.size_of_disk.new.disk c.read_content.new.disk [] front c.in_ok-size.ensures.gave c.in_ok-front.ensures.gave,
      (few, subst (IsRootless front) same none),
    )

pub returns-in-Ok-clause-front : goal.returns-in-Ok-clause-front
returns-in-Ok-clause-front g c =
    let M = g.D.Disk.model in
    let front = c.in_ok-front.front.items in
    let size = c.in_ok-size.size in
    let count : c.min.result ≡ min size 59 = search rules in
    let few : length front ≤ 59 = search rules in
    record {
      read = front;
      few = few;
      root_is = subst (λ (l : List ℕ). IsRootOf l c.in-Ok.root) c.deref.ensures.value c.in-Ok.ensures.root;
      gave = gives_more M c.args.disk.now c.size_of_disk.new.disk c.read_content.new.disk [] front c.in_ok-size.ensures.gave c.in_ok-front.ensures.gave;
      is = λ bytes is.
          (c.in_ok-size.ensures.size bytes is, c.in_ok-front.ensures.bytes bytes (c.in_ok-size.ensures.effect.1 ∙ is) ∙ ap (λ n. take n bytes) count);
    }

pub returns-in-Ok-clause-long : goal.returns-in-Ok-clause-long
returns-in-Ok-clause-long g c =
    let front = c.in_ok-front.front.items in
    let size = c.in_ok-size.size in
    let count : c.min.result ≡ min size 59 = search rules in
    let long : length front ≡ c.min.result = search rules in
    let root_is = subst (λ (l : List ℕ). IsRootOf l c.in-Ok.root) c.deref.ensures.value c.in-Ok.ensures.root in
    omega (arith, root_is.starts.long, long, count)
