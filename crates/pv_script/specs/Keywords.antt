-- How the words are spelled that lines begin with.
use Rattle.std.specs.Prelude.{ℕ, ◌-◌, ◌^◌, Option, List, [], ◌∷◌, find, codes}
use Rattle.std.specs.Option.{option_map}
use Rattle.std.specs.Str.{bytes_eq}
use Rattle.pv_base.specs.declared.limits.TheConstants.{MAX_CALL, MAX_PUMP}
use denote.Ref.{Bor}
use Rattle.pv_model.specs.LineForms.{Field, number, site, mode}
use Rattle.pv_script.specs.declared.keyword.Keyword as code
use Rattle.pv_script.specs.declared.keyword.Command as code_command
use Rattle.pv_script.specs.declared.keyword.Keyword.TheVariants.{Sites, Journal, Item, Submit, Query, Command}
use Rattle.pv_script.specs.declared.keyword.LiveKeyword as code_live
use Rattle.pv_script.specs.declared.keyword.LiveKeyword.TheVariants as live_word
use Rattle.pv_script.specs.declared.keyword.Command.TheVariants.{Deliver, Pump, Lose, Drop, Tick, Stop, Start, Cut, Fail, Mend, Checkpoint, Sent, Report, Total}

abbrev pub command_word : code_command.Command → List ℕ
command_word Deliver = codes "deliver"
command_word Pump = codes "pump"
command_word Lose = codes "lose"
command_word Drop = codes "drop"
command_word Tick = codes "tick"
command_word Stop = codes "stop"
command_word Start = codes "start"
command_word Cut = codes "cut"
command_word Fail = codes "fail"
command_word Mend = codes "mend"
command_word Checkpoint = codes "checkpoint"
command_word Sent = codes "sent"
command_word Report = codes "report"
command_word Total = codes "total"

-- what stands after the word, in each of its forms
abbrev pub command_forms : code_command.Command → List (List Field)
command_forms Deliver = (number 0 (2 ^ 64 - 1) ∷ []) ∷ []
command_forms Pump = [] ∷ (number 1 MAX_PUMP ∷ []) ∷ []
command_forms Lose = (number 0 (2 ^ 64 - 1) ∷ []) ∷ []
command_forms Drop = (site ∷ []) ∷ []
command_forms Tick = (site ∷ []) ∷ []
command_forms Stop = (site ∷ []) ∷ []
command_forms Start = (site ∷ []) ∷ []
command_forms Cut = (site ∷ number 1 MAX_CALL ∷ mode ∷ []) ∷ []
command_forms Fail = (site ∷ number 1 MAX_CALL ∷ mode ∷ []) ∷ []
command_forms Mend = (site ∷ []) ∷ []
command_forms Checkpoint = (site ∷ []) ∷ []
command_forms Sent = [] ∷ []
command_forms Report = [] ∷ []
command_forms Total = [] ∷ []

abbrev pub spelled : code.Keyword → List ℕ
spelled Sites = codes "sites"
spelled Journal = codes "journal"
spelled Item = codes "item"
spelled Submit = codes "submit"
spelled Query = codes "query"
spelled (Command command) = command_word command

abbrev pub spelled_live : code_live.LiveKeyword → List ℕ
spelled_live live_word.Sites = codes "sites"
spelled_live live_word.Journal = codes "journal"
spelled_live live_word.Item = codes "item"
spelled_live live_word.Plan = codes "plan"
spelled_live live_word.Client = codes "client"
spelled_live live_word.Submit = codes "submit"
spelled_live live_word.Query = codes "query"
spelled_live live_word.Peek = codes "peek"

-- the keyword beside the first word of a table that bytes are
unfoldable pub keyword_beside : {K : Type 0} → List ℕ → List (Bor (List ℕ) × K) → Option K
keyword_beside bytes table = option_map (λ entry. entry.1) (find (λ entry. bytes_eq bytes entry.0.now) table)
