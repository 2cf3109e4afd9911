use Rattle.packet_frame.specs.Frame.{frame_form}
use Rattle.packet_frame.proofs.FormLaws.{has_laws}
use Rattle.packet_frame.proofs.StreamLaws.{stream_laws}
use Rattle.packet_frame.proofs.laws.frame_laws.Goals as goal

pub returns : goal.returns
returns c = record { form = has_laws frame_form; streams = stream_laws }
