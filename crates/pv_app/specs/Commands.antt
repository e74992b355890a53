-- What the words after the program's name ask for.
use Rattle.std.specs.Prelude.{◌≡◌, ℕ, ◌≤◌, List, [], ◌∷◌, codes, decimal}
use Rattle.pv_app.specs.declared.command.Command.{Command}
use Rattle.pv_app.specs.declared.command.Command.TheVariants.{Run, Make, Big, Live, Over, Audit, Outbox, Quorum}
use Rattle.pv_app.specs.declared.tour.Tour.TheVariants.{Show, Upgrade}
use Rattle.pv_app.specs.declared.command.TheConstants.{MAX_NUMBER}
use Rattle.pv_cluster.specs.declared.running.TheConstants.{MAX_WORKERS}
use Rattle.pv_run.specs.declared.form.Form.TheVariants.{Text, Json, Trace}

-- the word of a command, with which its words begin
unfoldable pub word_of : Command → List ℕ
word_of (Run Text) = codes "run"
word_of (Run Json) = codes "json"
word_of (Run Trace) = codes "trace"
word_of (Make n) = codes "make"
word_of (Big n) = codes "big"
word_of (Live workers) = codes "live"
word_of (Over Show) = codes "show"
word_of (Over Upgrade) = codes "upgrade"
word_of Audit = codes "audit"
word_of Outbox = codes "outbox"
word_of Quorum = codes "quorum"

-- a word, and a number in decimal without a leading zero
abbrev pub AreNumbered : List (List ℕ) → List ℕ → ℕ → Type 0
AreNumbered words word n = words ≡ word ∷ decimal n ∷ []

-- The words are this command: a word with a number in its range, or a word alone.
abbrev pub IsCommand : List (List ℕ) → Command → Type 0
IsCommand words (Make n) = AreNumbered words (word_of (Make n)) n × (n ≤ MAX_NUMBER)
IsCommand words (Big n) = AreNumbered words (word_of (Big n)) n × (n ≤ MAX_NUMBER)
IsCommand words (Live workers) = AreNumbered words (word_of (Live workers)) workers × (1 ≤ workers) × (workers ≤ MAX_WORKERS)
IsCommand words command = words ≡ word_of command ∷ []

-- what is answered to words that are no command
abbrev pub usage_text : List ℕ
usage_text = codes "usage: polydb run | json | make N | big N | live W | show | upgrade | trace | audit | outbox | quorum\n"
