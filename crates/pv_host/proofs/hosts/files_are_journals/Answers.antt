use Rattle.pv_host.proofs.FileLemmas.{file_asked, file_opened, file_called, file_written, file_left, file_journal, file_holds}
use Rattle.pv_host.proofs.HostLemmas.{asked_keeps, called_stores}
use Rattle.pv_host.proofs.hosts.files_are_journals.Goals as goal

pub returns-clause-opened : goal.returns-clause-opened
returns-clause-opened c = file_opened

pub returns-clause-called : goal.returns-clause-called
returns-clause-called c = file_called

pub returns-clause-written : goal.returns-clause-written
returns-clause-written c = λ old new write file is same is_file. file_written old file is_file new write is same

pub returns-clause-crashed : goal.returns-clause-crashed
returns-clause-crashed c = λ log file left is_file may. file_left log file is_file left may

pub returns-clause-journals : goal.returns-clause-journals
returns-clause-journals c = file_journal

pub returns-clause-holds : goal.returns-clause-holds
returns-clause-holds c = file_holds

pub returns-clause-asked : goal.returns-clause-asked
returns-clause-asked c = λ log room file is_file. file_asked log file is_file room

pub returns-clause-stores : goal.returns-clause-stores
returns-clause-stores c = called_stores

pub returns-clause-keeps : goal.returns-clause-keeps
returns-clause-keeps c = asked_keeps
