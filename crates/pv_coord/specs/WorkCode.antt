-- A device that no claim names: what a coordinator holds as plain lists and numbers, from which it can be had back. A type that is seen
-- as such a work needs such a code.
use Rattle.std.specs.Prelude.{ℕ, zero, suc, ℤ, Bool, true, false, List, Option, ◌⊎◌, ◌≡◌, refl}
use Rattle.std.proofs.Common.{inl, inr}
use Rattle.std.specs.Coded.{Coded, code_by, coded_list, coded_option, coded_bool, coded_ℕ, coded_ℤ, coded×, coded⊎}
use Rattle.pv_base.specs.Polyvalue.{Case}
use Rattle.pv_base.specs.TxnCode.{txn_code}
use Rattle.pv_base.specs.Want.{Want}
use Rattle.pv_base.specs.declared.grant.GrantId.{GrantId}
use Rattle.pv_base.specs.declared.literal.Literal.{Literal}
use Rattle.pv_base.specs.declared.reply.Decline.{Decline}
use Rattle.pv_base.specs.declared.reply.Decline.TheVariants.{Require, Overflow, ZeroDivisor}
use Rattle.pv_base.specs.declared.reply.Reply.{Reply}
use Rattle.pv_base.specs.declared.reply.Reply.TheVariants.{Value, Nothing, Declined}
use Rattle.pv_base.specs.declared.txn.TxnId.{TxnId}
use Rattle.pv_coord.specs.Coordinator.{Coordinator, CoordMemory, Grants}
use Rattle.pv_coord.specs.Work.{Work}
use Rattle.pv_model.specs.Alternatives.{Read}
use Rattle.pv_model.specs.Check.{Part}
use Rattle.pv_model.specs.Syntax.{Program}
use Rattle.pv_model.specs.SyntaxCodes.{program_code}
use Rattle.pv_protocol.specs.State.{Entry, Stage, locking, voting, Taken}

abbrev grant_code : Coded GrantId
grant_code = code_by (ℕ × ℕ) (coded× coded_ℕ coded_ℕ) (λ g. (g.epoch, g.number)) (λ p. record { epoch = p.0; number = p.1 }) (λ _. refl)

abbrev want_code : Coded Want
want_code = code_by (ℕ × Bool) (coded× coded_ℕ coded_bool) (λ w. (w.item, w.exclusive)) (λ p. record { item = p.0; exclusive = p.1 }) (λ _. refl)

abbrev part_code : Coded Part
part_code = code_by (ℕ × List Want) (coded× coded_ℕ (coded_list want_code)) (λ part. (part.site, part.wants)) (λ p. record { site = p.0; wants = p.1 }) (λ _. refl)

abbrev literal_code : Coded Literal
literal_code = code_by (TxnId × Bool) (coded× txn_code coded_bool) (λ l. (l.txn, l.commits)) (λ p. record { txn = p.0; commits = p.1 }) (λ _. refl)

abbrev case_code : {V : Type 0} → Coded V → Coded (Case V)
case_code {V} code = code_by (List Literal × V) (coded× (coded_list literal_code) code) (λ c. (c.when, c.value)) (λ p. record { when = p.0; value = p.1 }) (λ _. refl)

abbrev read_code : Coded Read
read_code = code_by (ℕ × List (Case ℤ)) (coded× coded_ℕ (coded_list (case_code coded_ℤ))) (λ r. (r.item, r.cases)) (λ p. record { item = p.0; cases = p.1 }) (λ _. refl)

abbrev taken_code : Coded Taken
taken_code =
    code_by (ℕ × (GrantId × List Read)) (coded× coded_ℕ (coded× grant_code (coded_list read_code))) (λ t. (t.site, (t.grant, t.values)))
    (λ p. record { site = p.0; grant = p.1.0; values = p.1.1 }) (λ _. refl)

abbrev number_of : Decline → ℕ
number_of Require = 0
number_of Overflow = 1
number_of ZeroDivisor = 2

abbrev decline_at : ℕ → Decline
decline_at zero = Require
decline_at (suc zero) = Overflow
decline_at (suc (suc n)) = ZeroDivisor

pub decline_at-number_of : (d : Decline) → decline_at (number_of d) ≡ d
decline_at-number_of Require = refl
decline_at-number_of Overflow = refl
decline_at-number_of ZeroDivisor = refl

abbrev decline_code : Coded Decline
decline_code = code_by ℕ coded_ℕ number_of decline_at decline_at-number_of

abbrev sum_of : Reply → ℤ ⊎ Option Decline
sum_of (Value v) = inl v
sum_of Nothing = inr Option.None
sum_of (Declined d) = inr (Option.Some d)

abbrev reply_at : ℤ ⊎ Option Decline → Reply
reply_at (inl v) = Value v
reply_at (inr Option.None) = Nothing
reply_at (inr (Option.Some d)) = Declined d

pub reply_at-sum_of : (r : Reply) → reply_at (sum_of r) ≡ r
reply_at-sum_of (Value v) = refl
reply_at-sum_of Nothing = refl
reply_at-sum_of (Declined d) = refl

abbrev reply_code : Coded Reply
reply_code = code_by (ℤ ⊎ Option Decline) (coded⊎ coded_ℤ (coded_option decline_code)) sum_of reply_at reply_at-sum_of

abbrev votes_now : Stage → Bool
votes_now locking = false
votes_now voting = true

abbrev stage_at : Bool → Stage
stage_at false = locking
stage_at true = voting

pub stage_at-votes_now : (s : Stage) → stage_at (votes_now s) ≡ s
stage_at-votes_now locking = refl
stage_at-votes_now voting = refl

abbrev stage_code : Coded Stage
stage_code = code_by Bool coded_bool votes_now stage_at stage_at-votes_now

abbrev entry_code : Coded Entry
entry_code =
    code_by (TxnId × (Program × (Stage × (ℕ × (List Taken × List ℕ)))))
    (coded× txn_code (coded× program_code (coded× stage_code (coded× coded_ℕ (coded× (coded_list taken_code) (coded_list coded_ℕ))))))
    (λ e. (e.txn, (e.program, (e.stage, (e.age, (e.taken, e.votes))))))
    (λ p. record { txn = p.0; program = p.1.0; stage = p.1.1.0; age = p.1.1.1.0; taken = p.1.1.1.1.0; votes = p.1.1.1.1.1 }) (λ _. refl)

abbrev pub work_code : Coded Work
work_code =
    code_by (Entry × (List Part × Option (List (Case Reply))))
    (coded× entry_code (coded× (coded_list part_code) (coded_option (coded_list (case_code reply_code)))))
    (λ w. (w.entry, (w.parts, w.reply))) (λ p. record { entry = p.0; parts = p.1.0; reply = p.1.1 }) (λ _. refl)

abbrev coordinator_code : Coded Coordinator
coordinator_code =
    code_by (ℕ × (ℕ × (ℕ × List Work))) (coded× coded_ℕ (coded× coded_ℕ (coded× coded_ℕ (coded_list work_code)))) (λ c. (c.site, (c.epoch, (c.next, c.entries))))
    (λ p. record { site = p.0; epoch = p.1.0; next = p.1.1.0; entries = p.1.1.1 }) (λ _. refl)

abbrev pub memory_code : Coded CoordMemory
memory_code = code_by (Coordinator × ℕ) (coded× coordinator_code coded_ℕ) (λ m. (m.contents, m.places)) (λ p. record { contents = p.0; places = p.1 }) (λ _. refl)

abbrev pub grants_code : Coded Grants
grants_code = code_by (TxnId × Taken) (coded× txn_code taken_code) (λ g. (g.txn, g.taken)) (λ p. record { txn = p.0; taken = p.1 }) (λ _. refl)
