-- What a program writes and replies everywhere, from what it does at each assignment.
use Rattle.std.proofs.Common.{◌≡◌, ℕ, zero, suc, ℤ, ◌+◌, ◌<◌, ◌≤◌, Bool, true, false, List, [], ◌∷◌, ◌++◌, map, take, get_or, length, cond, IsTrue, sym, ap, ap₂, subst, ◌∙◌, arith}
use Rattle.std.specs.Prelude.{Some, Result, Ok, Err, IfOk, pos, All}
use Rattle.std.specs.List.{Contains}
use Rattle.std.specs.Option.{unwrap_or}
use Rattle.std.proofs.lemmas.List.{get_or-map, length-map, map-append, append-nil, take_all, take_more}
use Rattle.std.proofs.lemmas.List.Elements.{All-append, filter-append}
use Rattle.pv_base.specs.declared.txn.TxnId.{TxnId}
use Rattle.pv_base.specs.Assignment.{assignments}
use Rattle.pv_base.specs.Polyvalue.{Case, value_at, names, AreValues}
use Rattle.pv_model.specs.Alternatives.{Read, all_cases, number_at, rows_at, assigned}
use Rattle.pv_base.specs.declared.reply.Reply.{Reply}
use Rattle.pv_model.specs.Meaning.{Row, Effect, exec}
use Rattle.pv_model.specs.ProgramLaws.{assigns}
use Rattle.pv_model.specs.Syntax.{Program}
use Rattle.pv_base.proofs.MapLemmas.{map-map}
use Rattle.pv_law_programs.proofs.ProgramLemmas.{items_stay}
use Rattle.pv_law_polyvalues.proofs.TableLemmas.{value_at-chosen}
use Rattle.pv_split.specs.Columns.{effects_at, value_in_row, values_in_row}
use Rattle.pv_split.proofs.OutcomeLemmas.{everywhere, rows_at-chosen}

module _ (program : Program) (reads : List Read) where
  -- the rows that the program leaves
  abbrev pub after : List TxnId → List Row
  after a = (exec program (rows_at reads a)).rows

  -- the row that is read
  abbrev row-of : List TxnId → Read → Row
  row-of a read = record { item = read.item; value = number_at read.cases a }

  pub length-after : (a : List TxnId) → length (after a) ≡ length reads
  length-after a =
      sym (length-map (after a) (λ (row : Row). row.item))
      ∙ ap (λ (items : List ℕ). length items) (items_stay program (rows_at reads a))
      ∙ length-map (rows_at reads a) (λ (row : Row). row.item)
      ∙ length-map reads (row-of a)

  -- The row at a place is of the item that is read there.
  item-after : (a : List TxnId) (i : ℕ) (row : Row) (read : Read) → i < length reads → (get_or (after a) i row).item ≡ (get_or reads i read).item
  item-after a i row read within =
      let other : Row = record { item = 0; value = pos 0 } in
      sym (get_or-map (λ (r : Row). r.item) (after a) i row 0 (omega (arith, within, length-after a)))
      ∙ ap (λ (items : List ℕ). get_or items i 0) (items_stay program (rows_at reads a))
      ∙ get_or-map (λ (r : Row). r.item) (rows_at reads a) i other 0 (omega (arith, within, length-map reads (row-of a)))
      ∙ ap (λ (r : Row). r.item) (get_or-map (row-of a) reads i read other within)

  -- Each effect has a row for each read.
  pub rows-there : (txns : List TxnId) (effects : List Effect) (i : ℕ) → i < length reads → effects ≡ effects_at program reads txns
      → All (λ effect. i < length effect.rows) effects
  rows-there txns effects i within are =
      subst (All (λ effect. i < length effect.rows)) (sym are)
      (λ k d inside. subst (λ (effect : Effect). i < length effect.rows)
      (sym (get_or-map (λ a. exec program (rows_at reads a)) (assignments txns) k [] d (omega (arith, inside, length-map (assignments txns) (λ a. exec program (rows_at reads a))))))
      (omega (arith, within, length-after (get_or (assignments txns) k []))))

  module _ (txns : List TxnId) (named : (t : TxnId) → IsTrue (names (all_cases reads) t) → Contains txns t) where
    -- Cases that have the values of a row at each assignment of the transactions have them everywhere.
    written-everywhere : (i : ℕ) (cases : List (Case ℤ)) → AreValues cases txns (values_in_row i (effects_at program reads txns))
        → ((t : TxnId) → IsTrue (names cases t) → Contains txns t)
        → (a : List TxnId) → value_at cases a ≡ Some (value_in_row i (exec program (rows_at reads a)))
    written-everywhere i cases are named-too =
        let f : List TxnId → Effect = λ a. exec program (rows_at reads a) in
        everywhere (value_at cases) (λ a. Some (value_in_row i (f a))) txns
        (sym are
        ∙ ap (map Some) (map-map (value_in_row i) f (assignments txns))
        ∙ map-map Some (λ a. value_in_row i (f a)) (assignments txns))
        (value_at-chosen cases txns named-too)
        (λ a. ap (λ (rows : List Row). Some (value_in_row i (exec program rows))) (rows_at-chosen reads txns named a))

    -- The row of one more item is written.
    pub writes-next : (i : ℕ) (read write : Read) (effects : List Effect) (writes more : List Read) → i < length reads → read ≡ get_or reads i read
        → effects ≡ effects_at program reads txns → assigns program read.item ≡ true → write.item ≡ read.item
        → AreValues write.cases txns (values_in_row i effects) → ((t : TxnId) → IsTrue (names write.cases t) → Contains txns t)
        → more ≡ writes ++ write ∷ []
        → ((a : List TxnId) → rows_at writes a ≡ assigned program (take i (after a)))
        → (a : List TxnId) → rows_at more a ≡ assigned program (take (i + 1) (after a))
    writes-next i read write effects writes more within is are does item values named-too behind before a =
        let other : Row = record { item = 0; value = pos 0 } in
        let row = get_or (after a) i other in
        let same-item : row.item ≡ read.item = item-after a i other read within ∙ ap (λ (r : Read). r.item) (sym is) in
        let value = written-everywhere i write.cases (subst (λ (some : List Effect). AreValues write.cases txns (values_in_row i some)) are values) named-too a in
        let same : record { item = write.item; value = number_at write.cases a } ≡ row =
        λ j. record { item = (item ∙ sym same-item) j; value = unwrap_or (value j) (pos 0) } in
        ap (λ (some : List Read). rows_at some a) behind
        ∙ map-append (row-of a) writes (write ∷ [])
        ∙ ap₂ (λ (some : List Row) (one : Row). some ++ one ∷ []) (before a) same
        ∙ ap (λ (b : Bool). assigned program (take i (after a)) ++ cond b (row ∷ []) []) (sym (ap (assigns program) same-item ∙ does))
        ∙ sym (filter-append (λ (r : Row). assigns program r.item) (take i (after a)) (row ∷ []))
        ∙ ap (assigned program) (sym (take_more (after a) i other (omega (arith, within, length-after a))))

  -- The row of an item that the program doesn't assign is left out.
  pub writes-skip : (i : ℕ) (read : Read) (writes : List Read) → i < length reads → read ≡ get_or reads i read → assigns program read.item ≡ false
      → ((a : List TxnId) → rows_at writes a ≡ assigned program (take i (after a)))
      → (a : List TxnId) → rows_at writes a ≡ assigned program (take (i + 1) (after a))
  writes-skip i read writes within is doesnt before a =
      let other : Row = record { item = 0; value = pos 0 } in
      let row = get_or (after a) i other in
      let same-item : row.item ≡ read.item = item-after a i other read within ∙ ap (λ (r : Read). r.item) (sym is) in
      before a
      ∙ sym (append-nil (assigned program (take i (after a))))
      ∙ ap (λ (b : Bool). assigned program (take i (after a)) ++ cond b (row ∷ []) []) (sym (ap (assigns program) same-item ∙ doesnt))
      ∙ sym (filter-append (λ (r : Row). assigns program r.item) (take i (after a)) (row ∷ []))
      ∙ ap (assigned program) (sym (take_more (after a) i other (omega (arith, within, length-after a))))

  -- All rows are read.
  pub writes-end : (i : ℕ) (writes : List Read) → length reads ≤ i → ((a : List TxnId) → rows_at writes a ≡ assigned program (take i (after a)))
      → (a : List TxnId) → rows_at writes a ≡ assigned program (after a)
  writes-end i writes past all a = all a ∙ ap (assigned program) (take_all i (after a) (omega (arith, past, length-after a)))

  -- The reply.

  -- A reply that is right at each assignment of the transactions is right everywhere.
  pub replied-everywhere : (txns : List TxnId) (cases : List (Case Reply)) (effects : List Effect)
      → ((t : TxnId) → IsTrue (names (all_cases reads) t) → Contains txns t) → ((t : TxnId) → IsTrue (names cases t) → Contains txns t)
      → effects ≡ effects_at program reads txns
      → map (value_at cases) (assignments txns) ≡ map (λ effect. Some effect.reply) effects
      → (a : List TxnId) → value_at cases a ≡ Some (exec program (rows_at reads a)).reply
  replied-everywhere txns cases effects named named-too are same =
      let f : List TxnId → Effect = λ a. exec program (rows_at reads a) in
      everywhere (value_at cases) (λ a. Some (f a).reply) txns
      (same ∙ ap (map (λ (effect : Effect). Some effect.reply)) are ∙ map-map (λ (effect : Effect). Some effect.reply) f (assignments txns))
      (λ a. value_at-chosen cases txns named-too a)
      (λ a. ap (λ (rows : List Row). Some (exec program rows).reply) (rows_at-chosen reads txns named a))

-- The replies at each assignment.
pub replies-at : (txns : List TxnId) (cases : List (Case Reply)) (replies : List Reply) (effects : List Effect)
    → AreValues cases txns replies → replies ≡ map (λ effect. effect.reply) effects
    → map (value_at cases) (assignments txns) ≡ map (λ effect. Some effect.reply) effects
replies-at txns cases replies effects are same =
    sym are
    ∙ ap (map Some) same
    ∙ map-map Some (λ (effect : Effect). effect.reply) effects

-- What follows from a clause about a success.
pub over_ok : {X E : Type 0} (result : Result X E) (P Q : X → Type 0) → ((x : X) → P x → Q x) → IfOk result P → IfOk result Q
over_ok (Ok x) P Q go h = go x h
over_ok (Err e) P Q go h = tt

-- The write names only the transactions.
abbrev pub NamesOnly : List TxnId → Read → Type 0
NamesOnly txns write = (txn : TxnId) → IsTrue (names write.cases txn) → Contains txns txn

-- Where all of some and one more are such, all are.
pub All-more : {X : Type 0} (P : X → Type 0) (some all : List X) (one : X) → All P some → P one → all ≡ some ++ one ∷ [] → All P all
All-more P some all one are is behind = subst (All P) (sym behind) (All-append P some (one ∷ []) are (λ k d within. at k d within))
  where
    at : (k : ℕ) (d : _) → k < length (one ∷ []) → P (get_or (one ∷ []) k d)
    at zero d within = is
    at (suc k) d within = absurd (omega (arith, within))
