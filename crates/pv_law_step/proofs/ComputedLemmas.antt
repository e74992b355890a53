-- New values and replies are the canonical ones of what the program makes of the values that were taken.
use Rattle.std.proofs.Common.{◌≡◌, ℕ, ℤ, true, Some, List, [], ◌∷◌, ◌++◌, refl, ap, ap₂, ◌∙◌, pos}
use Rattle.std.specs.Prelude.{IsTrue, ◌||◌}
use Rattle.std.specs.List.{Contains}
use Rattle.std.specs.Option.{unwrap_or}
use Rattle.std.specs.Ordering.{int_eq}
use Rattle.std.proofs.lemmas.Bool.{or_left, or_right}
use Rattle.std.proofs.lemmas.Bool.Decides.{Decides-int_eq}
use Rattle.std.proofs.lemmas.List.Folds.{list_any-append}
use Rattle.pv_base.specs.declared.txn.TxnId.{TxnId}
use Rattle.pv_base.specs.ReplyExact.{reply_exact}
use Rattle.pv_base.specs.contracts.reply.DeclinePartialEq.TheImpl as decline_eq
use Rattle.pv_base.specs.Assignment.{AgreeOn, AreAscending, commits}
use Rattle.pv_base.specs.Canonical.{IsExact, IsFunctionOf}
use Rattle.pv_base.specs.Polyvalue.{Case, IsCanonical, names, value_at}
use Rattle.pv_format.specs.Record.{Record}
use Rattle.pv_law_canonical.proofs.CanonicalLemmas as canonical
use Rattle.pv_law_step.proofs.NameLists.{names-listed, names-ascend, undecided-ascend, listed-undecided}
use Rattle.pv_law_step.proofs.OutcomeLemmas.{choice-alike}
use Rattle.pv_law_polyvalues.proofs.ExistenceLemmas.{numbers-exact}
use Rattle.pv_law_polyvalues.proofs.PolyvalueLemmas.{value_at-agree}
use Rattle.pv_model.specs.Alternatives.{Read, all_cases, rows_at}
use Rattle.pv_base.specs.declared.reply.Decline.{Decline}
use Rattle.pv_base.specs.declared.reply.Decline.TheVariants.{Require, Overflow, ZeroDivisor}
use Rattle.pv_base.specs.declared.reply.Reply.{Reply}
use Rattle.pv_base.specs.declared.reply.Reply.TheVariants.{Value, Nothing, Declined}
use Rattle.pv_model.specs.Meaning.{Row, exec, value_in}
use Rattle.pv_model.specs.Replies.{is_same_reply}
use Rattle.pv_protocol.specs.Coordinate.{reads_of, names_taken, open_names, row_after, reply_after, new_value, reply_value}
use Rattle.pv_protocol.specs.Records.{choice}
use Rattle.pv_protocol.specs.State.{Entry}

-- Replies are told apart exactly.

decline-itself : (d : Decline) → decline_eq.ghosts.eq d d ≡ true
decline-itself Require = refl
decline-itself Overflow = refl
decline-itself ZeroDivisor = refl

reply-itself : (r : Reply) → is_same_reply r r ≡ true
reply-itself (Value z) = (Decides-int_eq z z).1 refl
reply-itself Nothing = refl
reply-itself (Declined d) = decline-itself d

pub reply-exact : IsExact is_same_reply
reply-exact = record { exact = reply_exact; itself = reply-itself }

-- What is read depends on what the values name.

names-append : {V : Type 0} (cases others : List (Case V)) (t : TxnId) → names (cases ++ others) t ≡ (names cases t || names others t)
names-append cases others t = list_any-append _ cases others

pub rows-alike : (reads : List Read) (a b : List TxnId) → AgreeOn (names (all_cases reads)) a b → rows_at reads a ≡ rows_at reads b
rows-alike [] a b agree = refl
rows-alike (read ∷ reads) a b agree =
    ap₂ (λ (first : ℤ) (rest : List Row). record { item = read.item; value = first } ∷ rest)
    (ap (λ value. unwrap_or value (pos 0))
    (value_at-agree read.cases a b (λ t named. agree t (names-append read.cases (all_cases reads) t ∙ or_left (names read.cases t) (names (all_cases reads) t) named))))
    (rows-alike reads a b (λ t named. agree t (names-append read.cases (all_cases reads) t ∙ or_right (names read.cases t) (names (all_cases reads) t) named)))

module _ (records : List Record) (entry : Entry) where
  open-ascend : AreAscending (open_names records entry)
  open-ascend = undecided-ascend records (names_taken entry) (names-ascend (all_cases (reads_of entry)))

  reads-alike : (a b : List TxnId) → ((t : TxnId) → Contains (open_names records entry) t → commits a t ≡ commits b t)
      → rows_at (reads_of entry) (choice records a) ≡ rows_at (reads_of entry) (choice records b)
  reads-alike a b agree =
      rows-alike (reads_of entry) (choice records a) (choice records b)
      (λ t named. choice-alike records a b t
      (λ unknown. agree t (listed-undecided records (names_taken entry) t unknown (names-listed (all_cases (reads_of entry)) t named))))

  row-depends : (item : ℕ) → IsFunctionOf (open_names records entry) (row_after records entry item)
  row-depends item a b agree = ap (λ rows. value_in (exec entry.program rows).rows item) (reads-alike a b agree)

  reply-depends : IsFunctionOf (open_names records entry) (reply_after records entry)
  reply-depends a b agree = ap (λ rows. (exec entry.program rows).reply) (reads-alike a b agree)

  pub new-canonical : (item : ℕ) → IsCanonical (new_value records entry item)
  unfolding new_value
  new-canonical item = canonical.canonical-is int_eq numbers-exact (open_names records entry) (row_after records entry item) open-ascend

  pub new-value : (item : ℕ) (a : List TxnId) → value_at (new_value records entry item) a ≡ Some (row_after records entry item a)
  unfolding new_value
  new-value item a = canonical.value-is int_eq numbers-exact (open_names records entry) (row_after records entry item) open-ascend (row-depends item) a

  pub new-names : (item : ℕ) (t : TxnId) → IsTrue (names (new_value records entry item) t) → Contains (open_names records entry) t
  unfolding new_value
  new-names item t named = canonical.names-listed int_eq (open_names records entry) (row_after records entry item) t named

  pub reply-canonical : IsCanonical (reply_value records entry)
  unfolding reply_value
  reply-canonical = canonical.canonical-is is_same_reply reply-exact (open_names records entry) (reply_after records entry) open-ascend

  pub reply-value : (a : List TxnId) → value_at (reply_value records entry) a ≡ Some (reply_after records entry a)
  unfolding reply_value
  reply-value a = canonical.value-is is_same_reply reply-exact (open_names records entry) (reply_after records entry) open-ascend reply-depends a
