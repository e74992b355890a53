-- What a list of nodes stands for, as it grows and where it is cut.
use Rattle.std.proofs.Common.{◌≡◌, ℕ, zero, suc, ◌+◌, ◌^◌, ◌<◌, true, false, List, [], ◌∷◌, ◌++◌, length, take, get_or, refl, sym, ap, ap₂, subst, ◌∙◌, arith, length-append}
use Rattle.std.proofs.lemmas.List.{length-take, get_or_default}
use Rattle.std.proofs.Math.ListN.{get_or-append}
use Rattle.std.proofs.Math.Seq.{get_or-append_seam}
use Rattle.pv_base.specs.Polyvalue.{Case, under, IsCanonical, sure, tested}
use Rattle.pv_cases.specs.Sides.{AreSides}
use Rattle.pv_tree.specs.declared.nodes.Node.{Node}
use Rattle.pv_tree.specs.declared.nodes.Node.TheVariants.{Leaf, Test}
use Rattle.pv_tree.specs.Meanings.{cases_at, IsAt, Keeps}
use Rattle.pv_tree.specs.Nodes.{meaning_of, IsNext, meanings_after, AreNext, AreNodes, IsNodeAt}

module _ {V : Type 0} where
  -- the cases of the nodes before, and of this one
  abbrev and_next : List (List (Case V)) → Node V → List (List (Case V))
  and_next before node = before ++ meaning_of before node ∷ []

  length-and : (before : List (List (Case V))) (node : Node V) → length (and_next before node) ≡ length before + 1
  length-and before node = length-append before (meaning_of before node ∷ [])

  pub length-meanings : (before : List (List (Case V))) (nodes : List (Node V)) → length (meanings_after before nodes) ≡ length before + length nodes
  length-meanings before [] = omega arith
  length-meanings before (node ∷ nodes) = omega (arith, length-meanings (and_next before node) nodes, length-and before node)

  -- What stood before has its cases.
  pub before-kept : (before : List (List (Case V))) (nodes : List (Node V)) (number : ℕ) → number < length before → cases_at (meanings_after before nodes) number ≡ cases_at before number
  before-kept before [] number within = refl
  before-kept before (node ∷ nodes) number within =
      before-kept (and_next before node) nodes number (omega (arith, within, length-and before node))
      ∙ get_or-append before (meaning_of before node ∷ []) [] number within

  -- One node more is one list of cases more.
  pub meanings-push : (before : List (List (Case V))) (nodes : List (Node V)) (node : Node V)
      → meanings_after before (nodes ++ node ∷ []) ≡ meanings_after before nodes ++ meaning_of (meanings_after before nodes) node ∷ []
  meanings-push before [] node = refl
  meanings-push before (first ∷ nodes) node = meanings-push (and_next before first) nodes node

  pub next-push : (before : List (List (Case V))) (nodes : List (Node V)) (node : Node V) → AreNext before nodes → IsNext (meanings_after before nodes) node
      → AreNext before (nodes ++ node ∷ [])
  next-push before [] node are is = (is, tt)
  next-push before (first ∷ nodes) node are is = (are.0, next-push (and_next before first) nodes node are.1 is)

  -- The first nodes are nodes, and have their cases.
  pub next-take : (before : List (List (Case V))) (nodes : List (Node V)) (count : ℕ) → AreNext before nodes → AreNext before (take count nodes)
  next-take before [] zero are = tt
  next-take before [] (suc count) are = tt
  next-take before (node ∷ nodes) zero are = tt
  next-take before (node ∷ nodes) (suc count) are = (are.0, next-take (and_next before node) nodes count are.1)

  pub cases-take : (before : List (List (Case V))) (nodes : List (Node V)) (count number : ℕ) → number < length before + count
      → cases_at (meanings_after before (take count nodes)) number ≡ cases_at (meanings_after before nodes) number
  cases-take before [] zero number within = refl
  cases-take before [] (suc count) number within = refl
  cases-take before (node ∷ nodes) zero number within = sym (before-kept before (node ∷ nodes) number (omega (arith, within)))
  cases-take before (node ∷ nodes) (suc count) number within =
      cases-take (and_next before node) nodes count number (omega (arith, within, length-and before node))

  -- What is known of a node behind others is known among all.

  next-at : (before : List (List (Case V))) (nodes : List (Node V)) (node : Node V) → IsNext before node → IsNodeAt (meanings_after before (node ∷ nodes)) (length before) node
  next-at before nodes (Leaf value) is =
      before-kept (and_next before (Leaf value)) nodes (length before) (omega (arith, length-and before (Leaf value)))
      ∙ get_or-append_seam before (meaning_of before (Leaf value)) [] []
  next-at before nodes (Test txn aborted committed) is =
      let node = Test txn aborted committed in
      let whole = meanings_after before (node ∷ nodes) in
      let front : cases_at whole aborted ≡ cases_at before aborted = before-kept before (node ∷ nodes) aborted is.aborted_below in
      let back : cases_at whole committed ≡ cases_at before committed = before-kept before (node ∷ nodes) committed is.committed_below in
      record {
        below = record {
          aborted_below = is.aborted_below;
          committed_below = is.committed_below;
          sides = subst (λ (c : List (Case V)). AreSides txn c (cases_at whole committed)) (sym front)
              (subst (λ (c : List (Case V)). AreSides txn (cases_at before aborted) c) (sym back) is.sides);
        };
        is = before-kept (and_next before node) nodes (length before) (omega (arith, length-and before node))
            ∙ get_or-append_seam before (meaning_of before node) [] []
            ∙ ap₂ (λ (a c : List (Case V)). under txn false a ++ under txn true c) (sym front) (sym back);
      }

  pub node-behind : (before : List (List (Case V))) (nodes : List (Node V)) (place : ℕ) (node : Node V) → place < length nodes → node ≡ get_or nodes place node → AreNext before nodes
      → IsNodeAt (meanings_after before nodes) (length before + place) node
  node-behind before [] place node within is are = absurd (omega (arith, within))
  node-behind before (first ∷ nodes) zero node within is are =
      let there : length before ≡ length before + 0 = omega arith in
      subst (λ n. IsNodeAt (meanings_after before (first ∷ nodes)) n node) there
      (subst (λ (x : Node V). IsNodeAt (meanings_after before (first ∷ nodes)) (length before) x) (sym is) (next-at before nodes first are.0))
  node-behind before (first ∷ nodes) (suc place) node within is are =
      let there : length (and_next before first) + place ≡ length before + suc place = omega (arith, length-and before first) in
      subst (λ n. IsNodeAt (meanings_after before (first ∷ nodes)) n node) there
      (node-behind (and_next before first) nodes place node (omega (arith, within)) is are.1)

  pub length-view : (nodes : List (Node V)) (meanings : List (List (Case V))) → meanings_after [] nodes ≡ meanings → length meanings ≡ length nodes
  length-view nodes meanings view = omega (arith, ap length view, length-meanings [] nodes)

  pub node-at : (nodes : List (Node V)) (meanings : List (List (Case V))) (number : ℕ) (node : Node V) → meanings_after [] nodes ≡ meanings → AreNodes nodes
      → number < length meanings → node ≡ get_or nodes number node → IsNodeAt meanings number node
  node-at nodes meanings number node view are within is =
      let there : length {A = List (Case V)} [] + number ≡ number = omega arith in
      subst (λ (m : List (List (Case V))). IsNodeAt m number node) view
      (subst (λ (n : ℕ). IsNodeAt (meanings_after [] nodes) n node) there
      (node-behind [] nodes number node (omega (arith, within, length-view nodes meanings view)) is are.next))

  -- The cases of a node are canonical.
  pub canonical-node : (meanings : List (List (Case V))) (number : ℕ) (node : Node V) → IsNodeAt meanings number node → IsCanonical (cases_at meanings number)
  canonical-node meanings number (Leaf value) is = subst IsCanonical (sym is) (sure value)
  canonical-node meanings number (Test txn aborted committed) is =
      let s = is.below.sides in
      subst IsCanonical (sym is.is)
      (tested txn (cases_at meanings aborted) (cases_at meanings committed) s.aborted_canonical s.committed_canonical s.aborted_after s.committed_after s.differ)

  pub canonical-in : (nodes : List (Node V)) (meanings : List (List (Case V))) (number : ℕ) → meanings_after [] nodes ≡ meanings → AreNodes nodes → number < length meanings
      → IsCanonical (cases_at meanings number)
  canonical-in [] meanings number view are within = absurd (omega (arith, within, length-view [] meanings view))
  canonical-in (first ∷ nodes) meanings number view are within =
      let node = get_or (first ∷ nodes) number first in
      canonical-node meanings number node
      (node-at (first ∷ nodes) meanings number node view are within
      (get_or_default (first ∷ nodes) number first node (omega (arith, within, length-view (first ∷ nodes) meanings view))))

  -- A node that is pushed has its cases, and the others keep theirs.
  pub push-keeps : (old new : List (List (Case V))) (cases : List (Case V)) → new ≡ old ++ cases ∷ [] → Keeps old new
  push-keeps old new cases is = record {
    longer = omega (arith, ap length is, length-append old (cases ∷ []));
    kept = λ number within. ap (λ (m : List (List (Case V))). cases_at m number) is ∙ get_or-append old (cases ∷ []) [] number within;
  }

  pub push-at : (old new : List (List (Case V))) (cases : List (Case V)) (number : ℕ) → new ≡ old ++ cases ∷ [] → number ≡ length old → IsAt new number cases
  push-at old new cases number is at = record {
    there = omega (arith, ap length is, length-append old (cases ∷ []), at);
    is = ap₂ (λ (m : List (List (Case V))) (n : ℕ). cases_at m n) is at ∙ get_or-append_seam old cases [] [];
  }

  pub pushed-nodes : (nodes new : List (Node V)) (node : Node V) (meanings : List (List (Case V))) → meanings_after [] nodes ≡ meanings → AreNodes nodes → IsNext meanings node
      → length nodes + 1 < 2 ^ 32 → new ≡ nodes ++ node ∷ [] → AreNodes new
  pushed-nodes nodes new node meanings view are is few pushed =
      subst AreNodes (sym pushed) (record {
        next = next-push [] nodes node are.next (subst (λ (m : List (List (Case V))). IsNext m node) (sym view) is);
        few = omega (arith, few, length-append nodes (node ∷ []));
      })

  pub pushed-meanings : (nodes new : List (Node V)) (node : Node V) (meanings : List (List (Case V))) → meanings_after [] nodes ≡ meanings → new ≡ nodes ++ node ∷ []
      → meanings_after [] new ≡ meanings ++ meaning_of meanings node ∷ []
  pushed-meanings nodes new node meanings view pushed =
      ap (meanings_after []) pushed ∙ meanings-push [] nodes node ∙ ap (λ (m : List (List (Case V))). m ++ meaning_of m node ∷ []) view

  -- The nodes are cut behind one.

  pub cut-nodes : (nodes new : List (Node V)) (count : ℕ) → AreNodes nodes → new ≡ take count nodes → AreNodes new
  cut-nodes nodes new count are cut =
      subst AreNodes (sym cut) (record { next = next-take [] nodes count are.next; few = omega (arith, are.few, length-take count nodes) })

  pub cut-length : (nodes new : List (Node V)) (meanings : List (List (Case V))) (number : ℕ) → meanings_after [] nodes ≡ meanings → number < length meanings
      → new ≡ take (number + 1) nodes → length (meanings_after [] new) ≡ number + 1
  cut-length nodes new meanings number view within cut =
      omega (arith, length-meanings [] new, ap length cut, length-take (number + 1) nodes, within, length-view nodes meanings view)

  pub cut-kept : (nodes new : List (Node V)) (meanings : List (List (Case V))) (number : ℕ) → meanings_after [] nodes ≡ meanings → new ≡ take (number + 1) nodes
      → cases_at (meanings_after [] new) number ≡ cases_at meanings number
  cut-kept nodes new meanings number view cut =
      ap (λ (ns : List (Node V)). cases_at (meanings_after [] ns) number) cut
      ∙ cases-take [] nodes (number + 1) number (omega arith)
      ∙ ap (λ (m : List (List (Case V))). cases_at m number) view
