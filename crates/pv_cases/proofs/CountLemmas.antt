-- How many transactions the canonical cases of a choice name: those of both sides together, and the one that is chosen by.
use Rattle.std.proofs.Common.{◌≡◌, ◌⊎◌, ⊎_elim, ℕ, ◌+◌, ◌≤◌, Bool, true, false, ◌||◌, List, [], ◌∷◌, ◌++◌, length, inl, inr, if◌then◌else◌, IsTrue, refl, sym, ap, subst, ◌∙◌, arith, length-append}
use Rattle.std.specs.List.{list_any}
use Rattle.std.specs.Prelude.{◌↔◌}
use Rattle.std.proofs.lemmas.Bool.{false≢true, true_from_ne_false, or_cases, or_left, or_right}
use Rattle.std.proofs.lemmas.List.Elements.{All-head, Contains-append_left, Contains-append_right}
use Rattle.std.proofs.lemmas.List.Folds.{list_any-append}
use Rattle.pv_base.specs.declared.literal.Literal.{Literal}
use Rattle.pv_base.specs.declared.txn.TxnId.{TxnId}
use Rattle.pv_base.specs.Assignment.{is_same_txn, commits, with_outcome}
use Rattle.pv_base.specs.Polyvalue.{Case, value_at, names, IsCanonical, AreNames, NamesAtMost, IsPolyvalue, IsChoice, IsSettled, ChoiceNames}
use Rattle.pv_base.specs.Polyvalue.IsCanonical.{sure}
use Rattle.pv_base.proofs.AssignmentLemmas.{same-refl, same-eq, commits-with-same, commits-with-alike}
use Rattle.pv_law_polyvalues.proofs.PolyvalueLemmas.{value_at-agree, unnamed-free, depends-named, one-canonical}
use Rattle.pv_law_polyvalues.proofs.ExistenceLemmas.{own-outcome}
use Rattle.pv_law_polyvalues.proofs.NameLemmas.{some-names, one-names, names-one-more, NamesAtMost-within}

-- the one outcome of one transaction
abbrev pub known : TxnId → Bool → List Literal
known txn outcome = record { txn = txn; commits = outcome } ∷ []

module _ {V : Type 0} where
  pub names-append : (aborted committed : List (Case V)) (u : TxnId) → names (aborted ++ committed) u ≡ (names aborted u || names committed u)
  names-append aborted committed u = list_any-append (λ (case : Case V). list_any (λ literal. is_same_txn u literal.txn) case.when) aborted committed

  -- Wherever the transaction has the outcome, a settled value is as it was.
  settled-where : {txn : TxnId} {outcome : Bool} {before after : List (Case V)} → IsSettled (known txn outcome) before after → (a : List TxnId)
      → commits a txn ≡ outcome → value_at after a ≡ value_at before a
  settled-where {txn} {outcome} {before} is a comes =
      is.same a ∙ value_at-agree before (with_outcome txn outcome a) a (λ u named. own-outcome txn outcome a comes u)

  pub settled-unnamed : {txn : TxnId} {outcome : Bool} {before after : List (Case V)} → IsSettled (known txn outcome) before after → names after txn ≡ false
  settled-unnamed {txn} {outcome} {before} {after} is =
      All-head (λ (literal : Literal). names after literal.txn ≡ false) (record { txn = txn; commits = outcome }) [] is.unnamed

  -- A choice between two values is one between what they are once the outcome is known.

  settled-side : {txn : TxnId} {new old aborted committed : List (Case V)} → IsSettled (known txn false) old aborted → IsSettled (known txn true) new committed → (b : Bool) (a : List TxnId)
      → commits a txn ≡ b → value_at (if b then new else old) a ≡ value_at (if b then committed else aborted) a
  settled-side first second true a is = sym (settled-where second a is)
  settled-side first second false a is = sym (settled-where first a is)

  pub choice-settled : {txn : TxnId} {new old aborted committed : List (Case V)} → IsSettled (known txn false) old aborted → IsSettled (known txn true) new committed
      → (cases : List (Case V)) → IsChoice txn old new cases → IsChoice txn aborted committed cases
  choice-settled {txn} first second cases choice a = choice a ∙ settled-side first second (commits a txn) a refl

  -- And the other way round.
  pub choice-unsettled : {txn : TxnId} {new old aborted committed : List (Case V)} → IsSettled (known txn false) old aborted → IsSettled (known txn true) new committed
      → (cases whole : List (Case V)) → whole ≡ cases → IsChoice txn aborted committed cases → IsChoice txn old new whole
  choice-unsettled {txn} first second cases whole same choice a =
      ap (λ (c : List (Case V)). value_at c a) same ∙ choice a ∙ sym (settled-side first second (commits a txn) a refl)

  same-value : (b : Bool) {aborted committed : List (Case V)} → aborted ≡ committed → (if b then committed else aborted) ≡ aborted
  same-value true same = sym same
  same-value false same = refl

  -- Where both sides are one, the choice is that side.
  pub same-choice : (txn : TxnId) {aborted committed : List (Case V)} → aborted ≡ committed → IsChoice txn aborted committed aborted
  same-choice txn same a = ap (λ (c : List (Case V)). value_at c a) (sym (same-value (commits a txn) same))

  -- What the canonical cases of a choice name.

  -- two values that don't name the transaction, and the canonical cases of the choice by it
  pub record AreChoices (txn : TxnId) (aborted committed cases : List (Case V)) : Type 0 where
    pub aborted_canonical : IsCanonical aborted
    pub committed_canonical : IsCanonical committed
    pub canonical : IsCanonical cases
    pub aborted_unnamed : names aborted txn ≡ false
    pub committed_unnamed : names committed txn ≡ false
    pub choice : IsChoice txn aborted committed cases

  aborted-of : {txn : TxnId} {aborted committed cases : List (Case V)} → AreChoices txn aborted committed cases → (a : List TxnId)
      → value_at aborted a ≡ value_at cases (with_outcome txn false a)
  aborted-of {txn} {aborted} {committed} are a =
      sym (unnamed-free txn aborted are.aborted_unnamed false a)
      ∙ ap (λ (b : Bool). value_at (if b then committed else aborted) (with_outcome txn false a)) (sym (commits-with-same txn false a))
      ∙ sym (are.choice (with_outcome txn false a))

  committed-of : {txn : TxnId} {aborted committed cases : List (Case V)} → AreChoices txn aborted committed cases → (a : List TxnId)
      → value_at committed a ≡ value_at cases (with_outcome txn true a)
  committed-of {txn} {aborted} {committed} are a =
      sym (unnamed-free txn committed are.committed_unnamed true a)
      ∙ ap (λ (b : Bool). value_at (if b then committed else aborted) (with_outcome txn true a)) (sym (commits-with-same txn true a))
      ∙ sym (are.choice (with_outcome txn true a))

  aborted-named : {txn : TxnId} {aborted committed cases : List (Case V)} → AreChoices txn aborted committed cases → (u : TxnId) → IsTrue (names aborted u) → IsTrue (names cases u)
  aborted-named {txn} {aborted} {committed} {cases} are =
      depends-named aborted (names cases) are.aborted_canonical
      (λ a b agree. aborted-of are a
      ∙ value_at-agree cases (with_outcome txn false a) (with_outcome txn false b) (λ u named. commits-with-alike txn false a b u (agree u named))
      ∙ sym (aborted-of are b))

  committed-named : {txn : TxnId} {aborted committed cases : List (Case V)} → AreChoices txn aborted committed cases → (u : TxnId) → IsTrue (names committed u) → IsTrue (names cases u)
  committed-named {txn} {aborted} {committed} {cases} are =
      depends-named committed (names cases) are.committed_canonical
      (λ a b agree. committed-of are a
      ∙ value_at-agree cases (with_outcome txn true a) (with_outcome txn true b) (λ u named. commits-with-alike txn true a b u (agree u named))
      ∙ sym (committed-of are b))

  -- Where the choice doesn't name the transaction, both sides are one.
  unnamed-same : {txn : TxnId} {aborted committed cases : List (Case V)} → AreChoices txn aborted committed cases → names cases txn ≡ false → aborted ≡ committed
  unnamed-same {txn} {aborted} {committed} {cases} are unnamed =
      one-canonical aborted committed are.aborted_canonical are.committed_canonical
      (λ a. aborted-of are a ∙ unnamed-free txn cases unnamed false a ∙ sym (unnamed-free txn cases unnamed true a) ∙ sym (committed-of are a))

  sides-agree : (aborted committed : List (Case V)) (a b : List TxnId) → value_at aborted a ≡ value_at aborted b → value_at committed a ≡ value_at committed b → (c d : Bool) → c ≡ d
      → value_at (if c then committed else aborted) a ≡ value_at (if d then committed else aborted) b
  sides-agree aborted committed a b first second true d is = second ∙ ap (λ (x : Bool). value_at (if x then committed else aborted) b) is
  sides-agree aborted committed a b first second false d is = first ∙ ap (λ (x : Bool). value_at (if x then committed else aborted) b) is

  choice-named : {txn : TxnId} {aborted committed cases : List (Case V)} → AreChoices txn aborted committed cases → (u : TxnId) → IsTrue (names cases u)
      → (txn ≡ u) ⊎ IsTrue (names (aborted ++ committed) u)
  choice-named {txn} {aborted} {committed} {cases} are u named =
      ⊎_elim
      (λ same. inl (same-eq {t = txn} {u = u} same))
      (λ side. inr side)
      (or_cases (is_same_txn txn u) (names (aborted ++ committed) u)
      (depends-named cases (λ w. is_same_txn txn w || names (aborted ++ committed) w) are.canonical
      (λ a b agree. are.choice a
      ∙ sides-agree aborted committed a b
      (value_at-agree aborted a b (λ w here. agree w (or_right (is_same_txn txn w) _ (names-append aborted committed w ∙ or_left _ (names committed w) here))))
      (value_at-agree committed a b (λ w here. agree w (or_right (is_same_txn txn w) _ (names-append aborted committed w ∙ or_right (names aborted w) _ here))))
      (commits a txn) (commits b txn) (agree txn (or_left (is_same_txn txn txn) _ (same-refl txn)))
      ∙ sym (are.choice b))
      u named))

  choice-names : {txn : TxnId} {aborted committed cases : List (Case V)} → AreChoices txn aborted committed cases → (aborted ≡ committed → ⊥) → (u : TxnId)
      → IsTrue (names cases u) ↔ ((txn ≡ u) ⊎ IsTrue (names (aborted ++ committed) u))
  choice-names {txn} {aborted} {committed} {cases} are differ u = (
    choice-named are u,
    ⊎_elim
        (λ same. subst (λ (w : TxnId). IsTrue (names cases w)) same (true_from_ne_false (names cases txn) (λ unnamed. differ (unnamed-same are unnamed))))
        (λ side. ⊎_elim (aborted-named are u) (committed-named are u) (or_cases (names aborted u) (names committed u) (sym (names-append aborted committed u) ∙ side))),
  )

  both-unnamed : (txn : TxnId) (aborted committed : List (Case V)) → names aborted txn ≡ false → names committed txn ≡ false → names (aborted ++ committed) txn ≡ false
  both-unnamed txn aborted committed first second = names-append aborted committed txn ∙ ap (λ (b : Bool). b || names committed txn) first ∙ second

  -- the number of names of a choice
  pub choice-count : {txn : TxnId} {aborted committed cases : List (Case V)} → AreChoices txn aborted committed cases → (aborted ≡ committed → ⊥) → (txns us : List TxnId)
      → AreNames (aborted ++ committed) txns → AreNames cases us → length us ≡ length txns + 1
  choice-count {txn} {aborted} {committed} {cases} are differ txns us first second =
      names-one-more (aborted ++ committed) cases txn txns us (choice-names are differ) (both-unnamed txn aborted committed are.aborted_unnamed are.committed_unnamed) first second

  -- Both sides of a choice together name no more than each of them.

  pub both-few : {aborted committed : List (Case V)} (limit : ℕ) → NamesAtMost limit aborted → NamesAtMost limit committed → NamesAtMost (limit + limit) (aborted ++ committed)
  both-few {aborted} {committed} limit first second =
      let ts = some-names aborted in
      let us = some-names committed in
      NamesAtMost-within (limit + limit) (aborted ++ committed) (ts.0 ++ us.0)
      (λ t named. ⊎_elim
      (λ here. Contains-append_left ts.0 us.0 t (ts.1.whole t here))
      (λ here. Contains-append_right ts.0 us.0 t (us.1.whole t here))
      (or_cases (names aborted t) (names committed t) (sym (names-append aborted committed t) ∙ named)))
      (omega (arith, length-append ts.0 us.0, first ts.0 ts.1, second us.0 us.1))

  -- Cases that name the same transactions have one list of them.
  pub same-count : {cases : List (Case V)} (txns us : List TxnId) → AreNames cases txns → AreNames cases us → length txns ≡ length us
  same-count {cases} txns us are them = ap length (one-names cases cases txns us (λ t. refl) are them)

  -- Cases that name nothing name few.
  pub nothing-few : (limit : ℕ) (cases : List (Case V)) → ((t : TxnId) → names cases t ≡ false) → NamesAtMost limit cases
  nothing-few limit cases nothing =
      NamesAtMost-within limit cases [] (λ t named. absurd (false≢true (sym (nothing t) ∙ named))) (omega arith)

  -- The count of a choice whose sides differ.

  choices-of : {txn : TxnId} {new old aborted committed : List (Case V)} {count : ℕ} → IsSettled (known txn false) old aborted → IsSettled (known txn true) new committed → IsCanonical aborted
      → IsCanonical committed → (chosen : ChoiceNames txn old new count) → AreChoices txn aborted committed chosen.cases
  choices-of first second f b chosen =
      record {
        aborted_canonical = f;
        committed_canonical = b;
        canonical = chosen.canonical;
        aborted_unnamed = settled-unnamed first;
        committed_unnamed = settled-unnamed second;
        choice = choice-settled first second chosen.cases chosen.choice;
      }

  pub refused-count : {txn : TxnId} {new old aborted committed : List (Case V)} → IsSettled (known txn false) old aborted → IsSettled (known txn true) new committed → IsCanonical aborted
      → IsCanonical committed → (aborted ≡ committed → ⊥) → (counted : ℕ) → ((txns : List TxnId) → AreNames (aborted ++ committed) txns → length txns ≡ counted)
      → (count : ℕ) → ChoiceNames txn old new count → counted + 1 ≡ count
  refused-count {aborted = aborted} {committed} first second f b differ counted counts count chosen =
      let both = some-names (aborted ++ committed) in
      omega (arith, choice-count (choices-of first second f b chosen) differ both.0 chosen.txns both.1 chosen.named, counts both.0 both.1, chosen.counted)

  pub chosen-polyvalue : {txn : TxnId} {new old aborted committed tree : List (Case V)} (limit : ℕ) → IsSettled (known txn false) old aborted → IsSettled (known txn true) new committed → IsCanonical aborted
      → IsCanonical committed → (aborted ≡ committed → ⊥) → (counted : ℕ) → ((txns : List TxnId) → AreNames (aborted ++ committed) txns → length txns ≡ counted)
      → counted + 1 ≤ limit → IsCanonical tree → IsChoice txn aborted committed tree → IsPolyvalue limit tree
  chosen-polyvalue {aborted = aborted} {committed} {tree} limit first second f b differ counted counts short canonical choice =
      record {
        canonical = canonical;
        few = λ us named.
            let both = some-names (aborted ++ committed) in
            let are : AreChoices _ aborted committed tree =
            record { aborted_canonical = f; committed_canonical = b; canonical = canonical; aborted_unnamed = settled-unnamed first; committed_unnamed = settled-unnamed second; choice = choice } in
            omega (arith, choice-count are differ both.0 us both.1 named, counts both.0 both.1, short);
      }

  -- A sure value is a polyvalue.
  pub sure-polyvalue : (limit : ℕ) {items : List (Case V)} (value : V) → items ≡ record { when = []; value = value } ∷ [] → IsPolyvalue limit items
  sure-polyvalue limit value is =
      subst (λ (c : List (Case V)). IsPolyvalue limit c) (sym is)
      (record { canonical = sure value; few = nothing-few limit (record { when = []; value = value } ∷ []) (λ t. refl) })
