-- What a program's values say.
use Rattle.job_files.specs.Tasks.{RunOutput}
use Rattle.stat_tool.specs.declared.output.Output.{Output}

-- the output that a program has made
abbrev pub output_view : Output → RunOutput
output_view output = record { unfinished = output.unfinished; journal = output.journal; report = output.report.items; journal_text = output.journal_text.items }
