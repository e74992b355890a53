-- Printed cases and those of the serial run where the committed transactions commit, and some of the open ones.
use Rattle.std.proofs.Common.{◌≡◌, ⊎_elim, ℕ, Bool, true, false, ◌||◌, ◌&&◌, ◌<◌, ◌+◌, Option, Some, None, List, [], ◌∷◌, ◌++◌, cond, refl, sym, ap, subst, ◌∙◌, get_or, length, take}
use Rattle.std.specs.Prelude.{ℤ, All, IsTrue, not, if◌then◌else◌}
use Rattle.std.specs.List.{Contains, cons_option, find}
use Rattle.std.proofs.lemmas.Bool.{and_from, both_ways, or_parts, false_from_ne_true, true_from_ne_false}
use Rattle.std.proofs.lemmas.List.Elements.{All-contains, All-cons, All-nil, Contains-append_left, filter_map-append}
use Rattle.std.proofs.lemmas.List.Folds.{list_any-append}
use Rattle.std.proofs.lemmas.List.{append-nil, take_more}
use Rattle.std.proofs.lemmas.Option.{none-some}
use Rattle.pv_audit.specs.Agreement.{AreOpen, serial_rows, with_committed}
use Rattle.pv_audit.specs.Differences.{AreSameForOpen, AreSameUnder, IsAstray, IsFirstList, IsShown, LineIsFine, NamesOnlyOpen, known_in, known_of}
use Rattle.pv_audit.specs.Findings.{open_lists}
use Rattle.pv_audit.specs.FirstFailures.{IsFirstFailure}
use Rattle.pv_audit.specs.Limits.{IsValueAfter, as_told}
use Rattle.pv_audit.specs.Reports.{Report, is_in, is_stray, misplaced, or_else, order_of}
use Rattle.pv_audit.proofs.FirstLists.{first-alike}
use Rattle.pv_audit.proofs.SettleSteps.{settled-named, settled-own}
use Rattle.pv_audit.proofs.SortedLists.{commits-listed, listed-commits}
use Rattle.pv_audit.proofs.StepLemmas.{commits-as_told}
use Rattle.pv_base.specs.Assignment.{AreAscending, commits, is_same_txn, precedes}
use Rattle.pv_base.specs.Catalog.{Declared}
use Rattle.pv_base.specs.Named.{with_txns}
use Rattle.pv_base.specs.Polyvalue.{AreNames, Case, IsPolyvalue, IsSettled, names, value_at}
use Rattle.pv_base.specs.declared.limits.TheConstants.{HELD_NAMES}
use Rattle.pv_base.specs.declared.literal.Literal.{Literal}
use Rattle.pv_base.specs.declared.txn.TxnId.{TxnId}
use Rattle.pv_base.proofs.ContainsLemmas.{Contains-behind, Contains-cases, Contains-first, Contains-nil}
use Rattle.pv_base.proofs.OrderLemmas.{pairs-nil}
use Rattle.pv_law_polyvalues.proofs.AscendingLemmas.{All-from_members}
use Rattle.pv_law_polyvalues.proofs.PolyvalueLemmas.{depends-named, value_at-agree}
use Rattle.pv_law_polyvalues.proofs.TableLemmas.{assigned-listed}
use Rattle.pv_law_step.proofs.NameLists.{united}
use Rattle.pv_law_values.proofs.SerialLemmas.{serial-alike}
use Rattle.pv_model.specs.Meaning.{Row, value_in}
use Rattle.pv_model.specs.Serial.{declared_rows}
use Rattle.pv_protocol.specs.Lines.{Line}

module _ (told : Report) where
  -- Which transactions commit.

  commits-both : (list : List TxnId) (t : TxnId) → commits (with_committed told list) t ≡ (is_in told.committed t || commits list t)
  commits-both list t = list_any-append (λ (u : TxnId). is_same_txn u t) told.committed list

  -- One that isn't open isn't among open ones.
  closed-out : (list : List TxnId) → AreOpen told list → (t : TxnId) → is_in told.open_ones t ≡ false → commits list t ≡ false
  closed-out list are t closed =
      false_from_ne_true (commits list t)
      (λ is. both_ways _ closed (All-contains (λ u. IsTrue (is_in told.open_ones u)) list t are (commits-listed list t is)))

  or-false : (b : Bool) → (b || false) ≡ b
  or-false true = refl
  or-false false = refl

  -- What the report says of transactions.

  known-cons : (P : List Literal → Type 0) (t : TxnId) (rest : List Literal) (b : Bool) → is_in told.open_ones t ≡ b
      → P (cons_option (if b then None else Some (record { txn = t; commits = is_in told.committed t })) rest) → P (cons_option (known_in told t) rest)
  known-cons P t rest b is =
      subst (λ (c : Bool). P (cons_option (if c then None else Some (record { txn = t; commits = is_in told.committed t })) rest)) (sym is)

  known-own-by : (list : List TxnId) → AreOpen told list → (t : TxnId) (rest : List Literal) (b : Bool) → is_in told.open_ones t ≡ b
      → All (λ (l : Literal). commits (with_committed told list) l.txn ≡ l.commits) rest
      → All (λ (l : Literal). commits (with_committed told list) l.txn ≡ l.commits) (cons_option (if b then None else Some (record { txn = t; commits = is_in told.committed t })) rest)
  known-own-by list are t rest true is own = own
  known-own-by list are t rest false is own =
      All-cons (λ (l : Literal). commits (with_committed told list) l.txn ≡ l.commits) (record { txn = t; commits = is_in told.committed t }) rest
      (commits-both list t ∙ ap (λ b. is_in told.committed t || b) (closed-out list are t is) ∙ or-false (is_in told.committed t)) own

  more-known : (ts : List TxnId) (i : ℕ) (d : TxnId) → i < length ts → known_of told (take (i + 1) ts) ≡ known_of told (take i ts) ++ cons_option (known_in told (get_or ts i d)) []
  more-known ts i d within = ap (known_of told) (take_more ts i d within) ∙ filter_map-append (known_in told) (take i ts) (get_or ts i d ∷ [])

  -- It is so where the committed transactions commit, and some of the open ones.
  known-own : (list : List TxnId) → AreOpen told list → (ts : List TxnId) → All (λ (l : Literal). commits (with_committed told list) l.txn ≡ l.commits) (known_of told ts)
  known-own list are [] = All-nil (λ (l : Literal). commits (with_committed told list) l.txn ≡ l.commits)
  known-own list are (t ∷ ts) =
      known-cons (All (λ (l : Literal). commits (with_committed told list) l.txn ≡ l.commits)) t (known_of told ts) (is_in told.open_ones t) refl
      (known-own-by list are t (known_of told ts) (is_in told.open_ones t) refl (known-own list are ts))

  -- Each that isn't open is told of.
  known-listed : (ts : List TxnId) (t : TxnId) → Contains ts t → is_in told.open_ones t ≡ false → Contains (known_of told ts) (record { txn = t; commits = is_in told.committed t })
  known-listed [] t here closed = absurd (Contains-nil t here)
  known-listed (u ∷ us) t here closed =
      ⊎_elim
      (λ same. known-cons (λ (ls : List Literal). Contains ls (record { txn = t; commits = is_in told.committed t })) u (known_of told us) false
      (ap (is_in told.open_ones) same ∙ closed)
      (subst (λ (v : TxnId). Contains (record { txn = v; commits = is_in told.committed v } ∷ known_of told us) (record { txn = t; commits = is_in told.committed t })) (sym same)
      (Contains-first (record { txn = t; commits = is_in told.committed t }) (known_of told us))))
      (λ behind. known-cons (λ (ls : List Literal). Contains ls (record { txn = t; commits = is_in told.committed t })) u (known_of told us) (is_in told.open_ones u) refl
      (behind-option (if is_in told.open_ones u then None else Some (record { txn = u; commits = is_in told.committed u })) (known_of told us)
      (record { txn = t; commits = is_in told.committed t }) (known-listed us t behind closed)))
      (Contains-cases u us t here)
    where
      behind-option : (o : Option Literal) (ls : List Literal) (l : Literal) → Contains ls l → Contains (cons_option o ls) l
      behind-option None ls l there = there
      behind-option (Some first) ls l there = Contains-behind first ls l there

  -- One transaction more.

  pub known-open : (ts : List TxnId) (i : ℕ) (d : TxnId) → i < length ts → is_in told.open_ones (get_or ts i d) ≡ true → known_of told (take (i + 1) ts) ≡ known_of told (take i ts)
  known-open ts i d within are =
      more-known ts i d within
      ∙ ap (λ (b : Bool). known_of told (take i ts) ++ cons_option (if b then None else Some (record { txn = get_or ts i d; commits = is_in told.committed (get_or ts i d) })) []) are
      ∙ append-nil (known_of told (take i ts))

  pub known-closed : (ts : List TxnId) (i : ℕ) (d : TxnId) → i < length ts → is_in told.open_ones (get_or ts i d) ≡ false
      → known_of told (take (i + 1) ts) ≡ known_of told (take i ts) ++ record { txn = get_or ts i d; commits = is_in told.committed (get_or ts i d) } ∷ []
  known-closed ts i d within closed =
      more-known ts i d within
      ∙ ap (λ (b : Bool). known_of told (take i ts) ++ cons_option (if b then None else Some (record { txn = get_or ts i d; commits = is_in told.committed (get_or ts i d) })) []) closed

  -- The printed cases, once that is known.
  pub shown-is : (cases shown : List (Case ℤ)) (ts : List TxnId) → AreNames cases ts → IsSettled (known_of told ts) cases shown → IsPolyvalue HELD_NAMES shown → IsShown told cases shown
  shown-is cases shown ts named is polyvalue = record {
    polyvalue = polyvalue;
    names = λ t there. true_from_ne_false (is_in told.open_ones t)
        (λ closed. both_ways _
        (All-contains (λ (l : Literal). names shown l.txn ≡ false) (known_of told ts) (record { txn = t; commits = is_in told.committed t }) is.unnamed
        (known-listed ts t (named.whole t (settled-named (known_of told ts) cases shown polyvalue.canonical is t there)) closed))
        there);
    same = λ list are. sym (settled-own (known_of told ts) cases shown (with_committed told list) is (known-own list are ts));
  }

  -- Lists of open transactions.

  pub open-listed : (t : TxnId) → IsTrue (is_in told.open_ones t) → Contains (with_txns told.open_ones []) t
  open-listed t is = (united told.open_ones [] (pairs-nil (λ txn later. IsTrue (precedes txn later)))).left t (commits-listed told.open_ones t is)

  pub open-ascending : AreAscending (with_txns told.open_ones [])
  open-ascending = (united told.open_ones [] (pairs-nil (λ txn later. IsTrue (precedes txn later)))).ascending

  pub lists-open : (list : List TxnId) → Contains (open_lists told) list → AreOpen told list
  lists-open list there =
      All-from_members (λ t. IsTrue (is_in told.open_ones t)) list
      (λ t in-list. listed-commits told.open_ones t
      (⊎_elim (λ here. here) (λ none. absurd (Contains-nil t none))
      ((united told.open_ones [] (pairs-nil (λ txn later. IsTrue (precedes txn later)))).only t (assigned-listed (with_txns told.open_ones []) list there t in-list))))

  -- No transaction is both committed and open.

  find-none : (p : TxnId → Bool) (ts : List TxnId) → find p ts ≡ None → (t : TxnId) → Contains ts t → p t ≡ false
  find-none p [] none t here = absurd (Contains-nil t here)
  find-none p (u ∷ us) none t here = go (p u) refl none (λ left. find-none p us left t)
    where
      go : (b : Bool) → p u ≡ b → find p (u ∷ us) ≡ None → (find p us ≡ None → Contains us t → p t ≡ false) → p t ≡ false
      go true is found later = absurd (none-some u (sym found ∙ ap (λ (c : Bool). cond c (Some u) (find p us)) is))
      go false is found later =
          ⊎_elim
          (λ same. ap p (sym same) ∙ is)
          (λ behind. later (ap (λ (c : Bool). cond c (Some u) (find p us)) (sym is) ∙ found) behind)
          (Contains-cases u us t here)

  else-none : (first second : Option TxnId) → or_else first second ≡ None → second ≡ None
  else-none None second none = none
  else-none (Some t) second none = absurd (none-some t (sym none))

  module _ (placed : misplaced told ≡ None) where
    pub apart : (t : TxnId) → IsTrue (is_in told.open_ones t) → is_in told.committed t ≡ false
    apart t are =
        false_from_ne_true (is_in told.committed t)
        (λ committed. both_ways _
        (or_parts (not (is_in told.ordered t)) (is_in told.committed t && is_in told.open_ones t)
        (find-none (is_stray told) (told.committed ++ told.open_ones) (else-none _ _ placed) t
        (Contains-append_left told.committed told.open_ones t (commits-listed told.committed t committed)))).1
        (and_from (is_in told.committed t) (is_in told.open_ones t) committed are))

    -- What names open transactions alone doesn't depend on the committed ones.
    free-value : (cases : List (Case ℤ)) → NamesOnlyOpen told cases → (list : List TxnId) → value_at cases list ≡ value_at cases (with_committed told list)
    free-value cases only list =
        value_at-agree cases list (with_committed told list)
        (λ t named. sym (commits-both list t ∙ ap (λ b. b || commits list t) (apart t (only t named))))

    module _ (cases shown serial : List (Case ℤ)) (is : IsShown told cases shown) (only : NamesOnlyOpen told serial) where
      -- Where they are one, they agree.
      pub same-for-open : shown ≡ serial → AreSameForOpen told cases serial
      same-for-open same list are = is.same list are ∙ ap (λ (c : List (Case ℤ)). value_at c (with_committed told list)) same

      -- Where they differ, the first list at which they do is that of the printed cases.
      pub first-of-printed : (list : List TxnId) → IsFirstFailure (AreSameUnder shown serial) (open_lists told) list → IsFirstList told cases serial list
      first-of-printed list found =
          first-alike (open_lists told) list
          (λ a there same. is.same a (lists-open a there) ∙ sym (free-value shown is.names a) ∙ same ∙ free-value serial only a)
          (λ a there same. free-value shown is.names a ∙ sym (is.same a (lists-open a there)) ∙ same ∙ sym (free-value serial only a))
          found

  -- The values of the serial run.

  module _ (catalog : Declared) (n : ℕ) (serial : List (Case ℤ)) (is : IsValueAfter catalog told (order_of told) n serial) where
    alike-told : (a b : List TxnId) → ((t : TxnId) → IsTrue (is_in told.open_ones t) → commits a t ≡ commits b t) → (t : TxnId) → commits (as_told told a) t ≡ commits (as_told told b) t
    alike-told a b agree t = commits-as_told told a t ∙ ap (λ c. is_in told.committed t || c) (by (is_in told.open_ones t) refl) ∙ sym (commits-as_told told b t)
      where
        by : (o : Bool) → is_in told.open_ones t ≡ o → (is_in told.open_ones t && commits a t) ≡ (is_in told.open_ones t && commits b t)
        by true are = ap (λ c. is_in told.open_ones t && c) (agree t are)
        by false closed = ap (λ c. c && commits a t) closed ∙ sym (ap (λ c. c && commits b t) closed)

    pub names-only-open : NamesOnlyOpen told serial
    names-only-open =
        depends-named serial (is_in told.open_ones) is.canonical
        (λ a b agree. is.same a
        ∙ ap (λ (rows : List Row). Some (value_in rows n))
        (serial-alike (declared_rows catalog) (order_of told) (as_told told a) (as_told told b) (λ t listed. alike-told a b agree t))
        ∙ sym (is.same b))

    as-told-open : (list : List TxnId) → AreOpen told list → (t : TxnId) → commits (as_told told (with_committed told list)) t ≡ commits (with_committed told list) t
    as-told-open list are t =
        commits-as_told told (with_committed told list) t
        ∙ ap (λ c. is_in told.committed t || (is_in told.open_ones t && c)) (commits-both list t)
        ∙ by (is_in told.committed t) (is_in told.open_ones t) refl
        ∙ sym (commits-both list t)
      where
        by : (c o : Bool) → is_in told.open_ones t ≡ o → (c || (is_in told.open_ones t && (c || commits list t))) ≡ (c || commits list t)
        by true o is = refl
        by false true are = ap (λ b. b && commits list t) are
        by false false closed = ap (λ b. b && commits list t) closed ∙ sym (closed-out list are t closed)

    value-told : (list : List TxnId) → AreOpen told list
        → value_at serial (with_committed told list) ≡ Some (value_in (serial_rows catalog told (with_committed told list)) n)
    value-told list are =
        is.same (with_committed told list)
        ∙ ap (λ (rows : List Row). Some (value_in rows n))
        (serial-alike (declared_rows catalog) (order_of told) (as_told told (with_committed told list)) (with_committed told list) (λ t listed. as-told-open list are t))

    -- A printed item agrees where its cases and the run's have the same values.
    pub item-fine : (cases : List (Case ℤ)) → AreSameForOpen told cases serial → LineIsFine catalog told (Line.item n cases)
    item-fine cases same list are = same list are ∙ value-told list are

    pub item-astray : (cases : List (Case ℤ)) (list : List TxnId) → IsFirstList told cases serial list → IsAstray catalog told (Line.item n cases) n list
    item-astray cases list found = record {
      cases = cases;
      is = refl;
      first = first-alike (open_lists told) list
          (λ a there same. same ∙ value-told a (lists-open a there))
          (λ a there agrees. agrees ∙ sym (value-told a (lists-open a there)))
          found;
    }
