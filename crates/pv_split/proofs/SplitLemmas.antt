-- A program over polyvalues has one split, or what it reads names one count of outcomes that is too many.
use Rattle.std.proofs.Common.{◌≡◌, ⊎_elim, ℕ, zero, suc, ℤ, ◌+◌, ◌<◌, ◌≤◌, Bool, true, false, List, [], ◌∷◌, ◌++◌, map, take, get_or, length, IsTrue, Result, Ok, Err, IfSome, inl, inr, refl, sym, ap, ap₂, subst, ◌∙◌, arith, pos}
use Rattle.std.specs.Prelude.{Some, All}
use Rattle.std.specs.List.{Contains}
use Rattle.std.specs.Option.{unwrap_or}
use Rattle.std.specs.Ordering.{int_eq}
use Rattle.std.proofs.lemmas.Bool.Decides.{Decides-int_eq}
use Rattle.std.proofs.lemmas.List.{get_or_default}
use Rattle.std.proofs.lemmas.List.Elements.{All-nil, All-head, All-tail}
use Rattle.pv_base.specs.Answer.{Answers, HasOneAnswer}
use Rattle.pv_base.specs.Assignment.{AreAscending, assignments}
use Rattle.pv_base.specs.Canonical.{IsExact, canonical_cases}
use Rattle.pv_base.specs.Polyvalue.{Case, names, IsCanonical, IsPolyvalue, NamesAtMost}
use Rattle.pv_base.specs.ReplyExact.{reply_exact}
use Rattle.pv_base.specs.contracts.reply.ReplyPartialEq.TheImpl as reply_eq
use Rattle.pv_base.specs.declared.reply.Decline.TheVariants.{Require, Overflow, ZeroDivisor}
use Rattle.pv_base.specs.declared.reply.Reply.{Reply}
use Rattle.pv_base.specs.declared.reply.Reply.TheVariants.{Value, Nothing, Declined}
use Rattle.pv_base.specs.declared.txn.TxnId.{TxnId}
use Rattle.pv_base.proofs.AnswerLemmas.{answered}
use Rattle.pv_base.proofs.Basics.{heads, tails}
use Rattle.pv_base.proofs.MapLemmas.{map-map}
use Rattle.pv_cases.specs.NameLimits.{NameTooMany}
use Rattle.pv_cases.proofs.NameLimitLemmas.{few-or-many, one-count, not-few}
use Rattle.pv_cases.proofs.PolyvalueFacts.{polyvalue-within}
use Rattle.pv_cases.proofs.RefusedLemmas.{refused-so}
use Rattle.pv_law_canonical.proofs.CanonicalLemmas.{canonical-is, names-listed, table-is, value-listed}
use Rattle.pv_law_polyvalues.proofs.ExistenceLemmas.{numbers-exact}
use Rattle.pv_law_polyvalues.proofs.NameLemmas.{some-names, listed-named}
use Rattle.pv_law_polyvalues.proofs.PolyvalueLemmas.{canonical-complete, one-canonical}
use Rattle.pv_model.specs.Alternatives.{Read, all_cases, number_at, rows_at, assigned}
use Rattle.pv_model.specs.Meaning.{Row, exec}
use Rattle.pv_model.specs.ProgramLaws.{assigns}
use Rattle.pv_model.specs.Syntax.{Program}
use Rattle.pv_split.specs.Columns.{effects_at, value_in_row}
use Rattle.pv_split.specs.Splitting.{count_of, IsJoinedSplit}
use Rattle.pv_split.specs.declared.joining.SplitError.{SplitError}
use Rattle.pv_split.proofs.OutcomeLemmas.{rows_at-chosen}
use Rattle.pv_split.proofs.WriteLemmas.{after, writes-next, writes-skip, writes-end, All-more, NamesOnly}

-- Replies are compared exactly.

reply-itself : (reply : Reply) → reply_eq.ghosts.eq reply reply ≡ true
reply-itself (Value number) = (Decides-int_eq number number).1 refl
reply-itself Nothing = refl
reply-itself (Declined Require) = refl
reply-itself (Declined Overflow) = refl
reply-itself (Declined ZeroDivisor) = refl

replies-exact : IsExact reply_eq.ghosts.eq
replies-exact = record { exact = reply_exact; itself = reply-itself }

-- There is a split.

module _ (program : Program) (reads : List Read) (txns : List TxnId) (up : AreAscending txns) (named : (t : TxnId) → IsTrue (names (all_cases reads) t) → Contains txns t) where
  -- what the program leaves in a row
  abbrev value-in : ℕ → List TxnId → ℤ
  value-in i a = value_in_row i (exec program (rows_at reads a))

  -- what is written of the first so many items that are read
  record AreWrites (i : ℕ) (writes : List Read) : Type 0 where
    pub written : (a : List TxnId) → rows_at writes a ≡ assigned program (take i (after program reads a))
    pub canonical : All (λ write. IsCanonical write.cases) writes
    pub only : All (NamesOnly txns) writes

  next-writes : (i : ℕ) (writes : List Read) (read : Read) (kept : Bool) → i < length reads → read ≡ get_or reads i read → assigns program read.item ≡ kept → AreWrites i writes
      → (more : List Read) × AreWrites (i + 1) more
  next-writes i writes read true within is does are =
      let write : Read = record { item = read.item; cases = canonical_cases int_eq txns (value-in i) } in
      let more = writes ++ write ∷ [] in
      let only = names-listed int_eq txns (value-in i) in (
        more,
        record {
          written = writes-next program reads txns named i read write (effects_at program reads txns) writes more within is refl does refl
              (ap (map Some) (map-map (value_in_row i) (λ a. exec program (rows_at reads a)) (assignments txns)) ∙ table-is int_eq numbers-exact txns (value-in i) up)
              only refl are.written;
          canonical = All-more (λ (w : Read). IsCanonical w.cases) writes more write are.canonical (canonical-is int_eq numbers-exact txns (value-in i) up) refl;
          only = All-more (NamesOnly txns) writes more write are.only only refl;
        },
      )
  next-writes i writes read false within is doesnt are =
      (writes, record { written = writes-skip program reads i read writes within is doesnt are.written; canonical = are.canonical; only = are.only })

  some-writes : (n : ℕ) → n ≤ length reads → (writes : List Read) × AreWrites n writes
  some-writes zero short =
      ([], record { written = λ a. refl; canonical = All-nil (λ (w : Read). IsCanonical w.cases); only = All-nil (NamesOnly txns) })
  some-writes (suc n) short =
      let before = some-writes n (omega (arith, short)) in
      let read = get_or reads n (record { item = 0; cases = [] }) in
      let within : n < length reads = omega (arith, short) in
      let e : n + 1 ≡ suc n = omega arith in
      let next = next-writes n before.0 read (assigns program read.item) within (get_or_default reads n _ _ within) refl before.1 in
      (next.0, subst (λ (m : ℕ). AreWrites m next.0) e next.1)

  all-writes : (writes : List Read) × AreWrites (length reads) writes
  all-writes = some-writes (length reads) (omega arith)

module _ (limit : ℕ) (program : Program) (reads : List Read) where
  some-split : NamesAtMost limit (all_cases reads) → (joined : List Read × List (Case Reply)) × IsJoinedSplit limit program reads joined
  some-split few =
      let listed = some-names (all_cases reads) in
      let txns = listed.0 in
      let up = listed.1.ascending in
      let short = few txns listed.1 in
      let writes = all-writes program reads txns up listed.1.whole in
      let f : List TxnId → Reply = λ a. (exec program (rows_at reads a)).reply in
      let reply = canonical_cases reply_eq.ghosts.eq txns f in
      let only = names-listed reply_eq.ghosts.eq txns f in (
        (writes.0, reply),
        record {
          few = few;
          split = record {
            written = writes-end program reads (length reads) writes.0 (omega arith) writes.1.written;
            replied = λ a. value-listed reply_eq.ghosts.eq replies-exact txns f up a
                ∙ ap (λ (rows : List Row). Some (exec program rows).reply) (rows_at-chosen reads txns listed.1.whole a);
          };
          writes = λ k d within. polyvalue-within limit _ _ txns refl (writes.1.canonical k d within) (writes.1.only k d within) short;
          reply = polyvalue-within limit reply reply txns refl (canonical-is reply_eq.ghosts.eq replies-exact txns f up) only short;
          named_by_writes = λ k d within t h. listed-named (all_cases reads) txns listed.1 t (writes.1.only k d within t h);
          named_by_reply = λ t h. listed-named (all_cases reads) txns listed.1 t (only t h);
        },
      )

-- There is one alone.

-- Canonical cases with one number everywhere are one list.
one-number : (cases others : List (Case ℤ)) → IsCanonical cases → IsCanonical others → ((a : List TxnId) → number_at cases a ≡ number_at others a) → cases ≡ others
one-number cases others is are same =
    one-canonical cases others is are (λ a.
    let first = canonical-complete cases is a in
    let second = canonical-complete others are a in
    first.1
    ∙ ap Some (sym (ap (λ o. unwrap_or o (pos 0)) first.1) ∙ same a ∙ ap (λ o. unwrap_or o (pos 0)) second.1)
    ∙ sym second.1)

-- Writes of polyvalues with one row everywhere are one list.
one-writes : (limit : ℕ) (writes others : List Read) → All (λ write. IsPolyvalue limit write.cases) writes → All (λ write. IsPolyvalue limit write.cases) others
    → ((a : List TxnId) → rows_at writes a ≡ rows_at others a) → writes ≡ others
one-writes limit [] [] are them same = refl
one-writes limit [] (other ∷ others) are them same = absurd (omega (arith, ap length (same [])))
one-writes limit (write ∷ writes) [] are them same = absurd (omega (arith, ap length (same [])))
one-writes limit (write ∷ writes) (other ∷ others) are them same =
    let P : Read → Type 0 = λ write. IsPolyvalue limit write.cases in
    let cases = one-number write.cases other.cases (All-head P write writes are).canonical (All-head P other others them).canonical
    (λ a. ap (λ (row : Row). row.value) (heads (same a))) in
    let first : write ≡ other = λ j. record { item = ap (λ (row : Row). row.item) (heads (same [])) j; cases = cases j } in
    ap₂ (λ (one : Read) (rest : List Read). one ∷ rest) first
    (one-writes limit writes others (All-tail P write writes are) (All-tail P other others them) (λ a. tails (same a)))

module _ (limit : ℕ) (program : Program) (reads : List Read) where
  one-split : HasOneAnswer (IsJoinedSplit limit program reads) (NameTooMany limit (all_cases reads))
  one-split = record {
    some = ⊎_elim (λ few. inl (some-split limit program reads few)) (λ many. inr many) (few-or-many limit (all_cases reads));
    one_value = λ joined other is are.
        ap₂ (λ (writes : List Read) (reply : List (Case Reply)). (writes, reply))
        (one-writes limit joined.0 other.0 is.writes are.writes (λ a. is.split.written a ∙ sym (are.split.written a)))
        (one-canonical joined.1 other.1 is.reply.canonical are.reply.canonical (λ a. is.split.replied a ∙ sym (are.split.replied a)));
    one_fault = one-count limit (all_cases reads);
    not_both = λ joined count is wrong. not-few limit (all_cases reads) count is.few wrong;
  }

  module _ {X : Type 0} (value_of : X → List Read × List (Case Reply)) where
    -- An error is the answer where what it reports is so.
    pub refused-split : (result : Result X SplitError) (error : SplitError) → result ≡ Err error → IfSome (count_of error) (NameTooMany limit (all_cases reads))
        → Answers (IsJoinedSplit limit program reads) (NameTooMany limit (all_cases reads)) value_of count_of result
    refused-split = refused-so (IsJoinedSplit limit program reads) (NameTooMany limit (all_cases reads)) one-split value_of count_of

    -- The split is the answer.
    pub given-split : (joined : X) → IsJoinedSplit limit program reads (value_of joined)
        → Answers (IsJoinedSplit limit program reads) (NameTooMany limit (all_cases reads)) value_of count_of (Ok joined)
    given-split joined is = answered (IsJoinedSplit limit program reads) (NameTooMany limit (all_cases reads)) one-split value_of count_of (Ok joined) is tt
