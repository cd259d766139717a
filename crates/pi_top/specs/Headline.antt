-- What a goal comes to that is asked of a program in some manner: what is written is the printing of a prefix of its run, and then the line of its
-- end, where it is written. A run is that of the meaning over names, of the texts that were read.
use Rattle.std.specs.Prelude.{◌≡◌, ◌<◌, ◌≤◌, ℕ, List, [], ◌∷◌, ◌++◌}
use Rattle.pi_outside.specs.Writes.{SinkWrite}
use Rattle.pi_traces.specs.Trace.{Out, Emitted, noted, answered}
use Rattle.pi_traces.specs.Depth.{Cut}
use Rattle.pi_syntax.specs.ExpTree.{ExpTree}
use Rattle.pi_syntax.specs.ProgramTree.{ProgramTree}
use Rattle.pi_meaning.specs.Shared.View.{query_view}
use Rattle.pi_meaning.specs.OverNames.Telling.{Told, told_answer}
use Rattle.pi_meaning.specs.OverNames.Stages.{LaterStages}
use Rattle.pi_meaning.specs.OverNames.Run.{IsNamesRun}
use Rattle.pi_rewrite_sound.specs.TermCalls.{Allows}
use Rattle.pi_print_terms.specs.PrintAnswer.{answer_lines}
use Rattle.pi_core.specs.declared.log.LogEntry.{LogEntry}
use Rattle.pi_top.specs.declared.manner.Manner.{Manner}
use Rattle.pi_top.specs.Handing.{HandsAll, FailsIn}
use Rattle.pi_top.specs.Prefix.{IsPrefix}
use Rattle.pi_top.specs.Printing.{print}
use Rattle.pi_top.specs.QueryEnd.{QueryEnd, status_of, count_answers, Ends}
use Rattle.pi_top.specs.ToldLines.{where_told, end_lines}
use Rattle.pi_top.specs.Took.{Took, Takes, TakesMore, TakesAt}

-- a part of the run of a goal under a log of planner calls, whatever later stages of the language give that program and goal allow: of its trace, cut before the Tick that is one more
-- than it may take
pub record IsPart (program : ProgramTree) (goal : ExpTree) (log : List LogEntry) (steps : ℕ) (run : Cut Told) (part : List (Emitted Told)) : Type 0 where
  pub is_run : (later : LaterStages) → Allows later program goal → IsNamesRun (query_view log) later program goal steps run
  pub begins : IsPrefix part run.events

-- A part of the run, what it took, its end with status, and the texts of its printing with the line of that end.
pub record Headline (manner : Manner) (program : ProgramTree) (goal : ExpTree) (log : List LogEntry) (took : Took) (status : ℕ) (texts : List (List ℕ)) : Type 0 where
  pub run : Cut Told
  pub part : List (Emitted Told)
  pub is_part : IsPart program goal log manner.steps run part
  pub ending : QueryEnd
  pub ends : Ends manner.answers part run ending
  pub takes : TakesAt manner.work ending took part
  pub its_status : status ≡ status_of ending
  pub written : texts ≡ print manner.lines part ++ end_lines manner.lines ending

-- Where it was cut off behind a part of the run, that took so much: a write of the lines of its last answer failed, or that of
-- the text that it last wrote, or that of the line of its end; or memory was wanted with fewer answers than are asked for.
pub data HowCut (manner : Manner) (run : Cut Told) (part : List (Emitted Told)) (took : Took) (status : ℕ) (writes : List SinkWrite) : Type 0 where
  in_answer : status ≡ 8 → Takes took part → (earlier : List (Emitted Told)) (x : Told) → part ≡ earlier ++ answered x ∷ [] → count_answers part ≤ manner.answers →
      FailsIn (print manner.lines earlier) (where_told manner.lines (answer_lines (told_answer x))) writes → HowCut manner run part took status writes
  in_text : status ≡ 8 → Takes took part → (earlier : List (Emitted Told)) (text : List ℕ) → part ≡ earlier ++ noted (Out text) ∷ [] → count_answers part < manner.answers →
      FailsIn (print manner.lines earlier) (text ∷ []) writes → HowCut manner run part took status writes
  in_line : status ≡ 8 → (ending : QueryEnd) → Ends manner.answers part run ending → TakesAt manner.work ending took part → FailsIn (print manner.lines part) (end_lines manner.lines ending) writes →
      HowCut manner run part took status writes
  at_memory : status ≡ 9 → TakesMore took part → count_answers part < manner.answers → HandsAll (print manner.lines part) writes → HowCut manner run part took status writes

pub record IsCutOff (manner : Manner) (program : ProgramTree) (goal : ExpTree) (log : List LogEntry) (took : Took) (status : ℕ) (writes : List SinkWrite) : Type 0 where
  pub run : Cut Told
  pub part : List (Emitted Told)
  pub is_part : IsPart program goal log manner.steps run part
  pub how : HowCut manner run part took status writes
