use Rattle.ftp_runs.specs.Script.{script_of, start_of}
use Rattle.ftp_runs.proofs.OneScript.{one_script}
use Rattle.ftp_runs.proofs.laws.a_list_of_free_drops_is_one_script.Goals as goal

pub returns : goal.returns
returns c = record { whole = λ coding outcomes old form events even frees. one_script coding (start_of old outcomes) (script_of old form) events even even frees }
