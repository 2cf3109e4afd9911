-- Worked rows: texts, plans and a line of the summary, computed from the definitions.
use Rattle.std.specs.Prelude.{◌≡◌, refl, [], ◌∷◌, codes, Some, None}
use Rattle.std.specs.Fmt.{digits}
use Rattle.overlay_setup.specs.Scripts.{scripted, stream}
use Rattle.overlay_setup.specs.Topologies.{topology}
use Rattle.overlay_setup.specs.declared.script.Grain.TheVariants.{Line}
use Rattle.overlay_setup.specs.declared.script.Mode.TheVariants.{WaitForAll, DontWait}
use Rattle.generated_job.specs.Texts.{topology_text, daemon_line, stack_line, script_text, middle_count}
use Rattle.generated_job.specs.Job.{job_nodes, job_script}
use Rattle.generated_job.specs.Summary.{job_line}

topology_of_1 : topology_text 1 ≡ codes "fe:0 => m:0 ;\nm:0 => d:0 ;\n"
unfolding digits
topology_of_1 = refl

-- 17 daemons: 16 under the first middle node, and one under the second
topology_of_17 :
    topology_text 17
    ≡ codes "fe:0 => m:0 m:1 ;\nm:0 => d:0 d:1 d:2 d:3 d:4 d:5 d:6 d:7 d:8 d:9 d:10 d:11 d:12 d:13 d:14 d:15 ;\nm:1 => d:16 ;\n"
unfolding digits
topology_of_17 = refl

nodes_of_1 :
    job_nodes 1 ≡ topology (codes "fe:0" ∷ codes "m:0" ∷ codes "d:0" ∷ []) (None ∷ Some 0 ∷ Some 1 ∷ [])
unfolding digits
nodes_of_1 = refl

daemon_255 : daemon_line 255 ≡ codes "daemon d:255 16320-16383"
unfolding digits
daemon_255 = refl

-- 16383 / 16 = 1023 and 1023 % 4 = 3; (16383 + 1 + 5 % 3) % 3 = 0
last_rank_at_1 : stack_line 5 1 16383 ≡ codes "stack 1 16383 main;f3;g0"
unfolding digits
last_rank_at_1 = refl

-- 64 / 16 = 4 and 4 % 4 = 0; (64 + 0 + 0 % 3) % 3 = 1
first_rank_of_the_second_daemon_at_0 : stack_line 0 0 64 ≡ codes "stack 0 64 main;f0;g1"
unfolding digits
first_rank_of_the_second_daemon_at_0 = refl

-- four middle nodes, of which m:1 and m:3 are lost
script_of_49 :
    script_text 49
    ≡ codes "stream 0 wait-for-all waves 1 samples 2 on all\nstream 1 dont-wait waves 1 samples 1 on all\nlose m:1 after 20 keep 1\nlose m:3 after 20 keep 1\n"
unfolding digits
script_of_49 = refl

-- the front end, one middle node, and two daemons
script_is_of_2 :
    job_script 2
    ≡ scripted (stream 0 WaitForAll 1 2 Line (2 ∷ 3 ∷ []) ∷ stream 1 DontWait 1 1 Line (2 ∷ 3 ∷ []) ∷ []) []
script_is_of_2 = refl

losses_of_49 :
    (job_script 49).faults ≡ record { node = 2; after = 20; keep = 1 } ∷ record { node = 4; after = 20; keep = 1 } ∷ []
losses_of_49 = refl

middle_nodes_of_256 : middle_count 256 ≡ 16
middle_nodes_of_256 = refl

line_of_seed_7 : job_line 7 256 ≡ codes "gen seed 7 size 256\n"
unfolding digits
line_of_seed_7 = refl
