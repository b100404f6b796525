use Rattle.rel_writer.proofs.Worlds.{good_steps, good_start, takes, all_taken}
use Rattle.rel_writer.specs.Worlds.{start}
use Rattle.rel_writer.proofs.laws.each_reader_takes_the_replay.Goals as goal

pub returns : goal.returns
returns c = record {
  front = λ reader service writer events w steps. takes reader writer w
      (good_steps reader writer events (start reader service writer) w
      (good_start reader service writer) steps);
  complete = λ reader service writer events w s steps e d. all_taken reader writer w s
      (good_steps reader writer events (start reader service writer) w
      (good_start reader service writer) steps) e d;
}
