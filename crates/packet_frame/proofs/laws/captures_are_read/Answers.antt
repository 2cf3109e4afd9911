use Rattle.std.specs.Prelude.{refl}
use Rattle.std.specs.Str.{is_utf8, chars}
use lib.Utf8.{encode}
use Rattle.rank_set.specs.Ranks.{has, with_rank, union, those}
use Rattle.rank_set.specs.Runs.{ranks_between}
use Rattle.rank_set.specs.Words.{ranks_in, word_at}
use Rattle.rank_places.specs.Places.{place, from_places}
use Rattle.packet_frame.specs.Frame.{word_form, words_form, offset_form, word_count_form, set_form, run_count_form, first_rank_form, last_rank_form, run_form, runs_form, coverage_form, ends_rule, ends_form, depth_form, name_length_form, name_form, row_form, version_form, kind_form, stream_form, wave_form, row_count_form, tree_form, content_form, packet_form, frame_form}
use Rattle.packet_frame.proofs.laws.captures_are_read.Goals as goal

pub returns : goal.returns
unfolding is_utf8 chars encode has with_rank union those ranks_between ranks_in word_at place from_places word_form words_form offset_form word_count_form set_form run_count_form first_rank_form last_rank_form run_form runs_form coverage_form ends_rule ends_form depth_form name_length_form name_form row_form version_form kind_form stream_form wave_form row_count_form tree_form content_form packet_form frame_form
returns c = record {
  first = record { attach = refl; down = refl; over = refl; no_rows = refl; short = refl; zero_word = refl; kind = refl; outside = refl; siblings = refl; four = (refl, (refl, (refl, (refl, refl)))) };
  second = record { attach = refl; down = refl; places = refl; no_place = refl; touching = refl; backward = refl; over_rank = refl; no_runs = refl; runs = refl; four = (refl, (refl, (refl, (refl, refl)))) };
}
